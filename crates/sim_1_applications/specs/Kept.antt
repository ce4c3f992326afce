-- What every event keeps.
use Rattle.std.specs.Prelude.{◌≡◌, ℕ, suc, ◌+◌, ◌<◌, ◌≤◌, ◌≢◌, ◌⊎◌, ◌==◌, ◌-◌, min, max, nat_le, if◌then◌else◌, Bool, true, false, List, [], ◌∷◌, ◌++◌, Option, Some, None, length, drop, map, filter, slice_get}
use Rattle.std.specs.List.{AllByRecursion, flat_map}
use Rattle.sim_1_applications.specs.Stanzas.{Submission, Request, messages, requests, answers, lives}
use Rattle.sim_1_applications.specs.Stanzas.Down.{Res}
use Rattle.sim_1_applications.specs.Devices.{Session, Sessions, up_put, Reading, Device, OpenPage, Answer, Tile, Made, Take, AppWorld, epoch_of, log_of, last_of, first_of}
use Rattle.sim_1_applications.specs.Devices.Stage.{Named, Known}
use Rattle.sim_1_applications.specs.Devices.Row.{Present}
use Rattle.sim_1_applications.specs.Answers.{following, last_in, page_answer_of}
use Rattle.sim_1_applications.specs.Events.{is_among, is_number_among, number_or_none}

-- A1. No more is acknowledged than was handled. Nothing comes down before the server counts, nothing goes up before
-- the client knows it.
pub record IsSession (s : Session) : Type 0 where
  pub acked : s.acked ≤ length s.up_got
  pub available : s.stage ≡ Named → s.available ≡ false
  pub carbons : s.stage ≡ Named → s.carbons ≡ false
  pub down_got : s.stage ≡ Named → s.down_got ≡ []
  pub down_rest : s.stage ≡ Named → s.down_rest ≡ []
  pub up_got : s.stage ≢ Known → s.up_got ≡ []
  pub up_rest : s.stage ≢ Known → s.up_rest ≡ []

-- A2. A live session that the client knows of is of an epoch above the one that was reached at the last bind.
pub record AreEpochs (s : Sessions) : Type 0 where
  pub bound : s.bound ≤ epoch_of s
  pub present : s.row ≡ Present → s.bound < epoch_of s
  pub online : s.online ≡ true → s.now.stage ≡ Known

-- these are of an epoch, with the numbers behind n
abbrev pub AreNumbered : ℕ → ℕ → List Submission → Type 0
AreNumbered epoch n [] = Unit {0}
AreNumbered epoch n (m ∷ ms) = (m.epoch ≡ epoch) × (m.n ≡ suc n) × AreNumbered epoch (suc n) ms

-- A3. The messages of each session are those of its epoch, with the numbers 1, 2, 3 and so on. Before epoch 1 there are
-- none.
pub record IsNumbered (epoch : ℕ) (s : Session) : Type 0 where
  pub is_session : IsSession s
  pub zero : epoch ≡ 0 → s.stage ≡ Named
  pub numbers : AreNumbered epoch 0 (messages (up_put s))

abbrev pub ArePast : ℕ → List Session → Type 0
ArePast epoch [] = Unit {0}
ArePast epoch (s ∷ ss) = IsNumbered epoch s × ArePast (suc epoch) ss

pub record SessionsKept (s : Sessions) : Type 0 where
  pub epochs : AreEpochs s
  pub past : ArePast 0 s.past
  pub now : IsNumbered (epoch_of s) s.now
  pub n : s.n ≡ length (messages (up_put s.now))

-- A4. What was taken of a device is what was handled of its sessions, one session after the other.

abbrev pub is_of : ℕ → Take → Bool
is_of i t = t.device == i

abbrev pub accepted : List (List ℕ) → Session → List Submission
accepted accounts s = filter (λ m. is_among m.to accounts) (messages s.up_got)

-- of a device: of the sessions before the present one, and of that
abbrev pub handled : List (List ℕ) → Sessions → List Submission
handled accounts s = flat_map (accepted accounts) s.past ++ accepted accounts s.now

abbrev pub said_in : Take → Submission
said_in t = t.said

pub record TakesKept (accounts : List (List ℕ)) (takes : List Take) (i : ℕ) (d : Device) : Type 0 where
  pub are : map said_in (filter (is_of i) takes) ≡ handled accounts d.sessions
  pub home : AllByRecursion (λ t. t.account ≡ d.account) (filter (is_of i) takes)

-- each take is of a device, and of a message to an account that exists
pub record IsOfDevice (accounts : List (List ℕ)) (many : ℕ) (t : Take) : Type 0 where
  pub device : t.device < many
  pub exists : is_among t.said.to accounts ≡ true

-- A5. Moments don't fall, and none is to come.
abbrev pub AreMoments : ℕ → ℕ → List Take → Type 0
AreMoments low now [] = low ≤ now
AreMoments low now (t ∷ ts) = (low ≤ t.moment) × AreMoments t.moment now ts

-- A10. Behind an answer no message of an epoch before its own is taken.
pub record IsSettledAt (takes : List Take) (i : ℕ) (m : Made) : Type 0 where
  pub before : m.takes ≤ length takes
  pub later : AllByRecursion (λ t. m.epoch ≤ t.said.epoch) (filter (is_of i) (drop m.takes takes))

pub record MadeKept (takes : List Take) (i : ℕ) (d : Device) : Type 0 where
  pub settled : AllByRecursion (IsSettledAt takes i) d.made
  pub epochs : AllByRecursion (λ m. m.epoch ≤ epoch_of d.sessions) d.made

-- A6, A9. The page under way.

abbrev pub request_of : OpenPage → Request
request_of page = record { number = page.number; after = page.after; max = page.max }

abbrev pub IsFront : {A : Type 0} → List A → List A → Type 0
IsFront {A = A} front whole = (rest : List A) × (whole ≡ front ++ rest)

-- Its place is the log's last number; or the archive's beginning, where that number is purged. And the log's last run
-- begins no later than the archive began then.
pub record IsPosition (kept : ℕ) (run : List ℕ) (after : Option ℕ) : Type 0 where
  pub following : (after ≡ last_in run) ⊎ ((after ≡ None) × (number_or_none (last_in run) < kept))
  pub reaches : (n : ℕ) → slice_get run 0 ≡ Some n → n ≤ kept

-- it isn't answered
pub record IsAsked (first last : ℕ) (d : Device) (page : OpenPage) : Type 0 where
  pub request : requests d.sessions.now.up_rest ≡ request_of page ∷ []
  pub underway : answers d.sessions.now.down_rest ≡ []
  pub results : page.results ≡ []
  pub position : IsPosition first d.reading.run page.after
  pub began : page.began ≤ last

-- it is answered: what was handled of the answer and what wasn't are the answer; of the latter a front is under way,
-- and all of it while the session lives
pub record IsAnswered (keep first last : ℕ) (d : Device) (page : OpenPage) (a : Answer) : Type 0 where
  pub request : requests d.sessions.now.up_rest ≡ []
  pub underway : IsFront (answers d.sessions.now.down_rest) a.rest
  pub whole : d.sessions.row ≡ Present → answers d.sessions.now.down_rest ≡ a.rest
  pub answer : map (Res page.number) page.results ++ a.rest ≡ page_answer_of a.first a.last (request_of page)
  pub some : a.rest ≢ []
  pub kept : a.first ≡ first_of keep a.last
  pub first_rises : a.first ≤ first
  pub last_rises : a.last ≤ last
  pub position : IsPosition a.first d.reading.run page.after
  pub logged : number_or_none (last_in d.reading.run) ≤ a.last
  pub began : page.began ≤ a.last

abbrev pub IsAt : ℕ → ℕ → ℕ → Device → OpenPage → Option Answer → Type 0
IsAt keep first last d page None = IsAsked first last d page
IsAt keep first last d page (Some a) = IsAnswered keep first last d page a

pub record IsOpen (keep first last : ℕ) (d : Device) (page : OpenPage) : Type 0 where
  pub number : page.number ≡ d.reading.asked
  pub some : 1 ≤ page.max
  pub most : page.max ≤ 100
  pub progress : IsAt keep first last d page page.answer

abbrev pub IsPage : ℕ → ℕ → ℕ → Device → Option OpenPage → Type 0
IsPage keep first last d None = (requests d.sessions.now.up_rest ≡ []) × (answers d.sessions.now.down_rest ≡ [])
IsPage keep first last d (Some page) = IsOpen keep first last d page

pub record PageKept (keep first last : ℕ) (d : Device) : Type 0 where
  pub early : d.sessions.now.stage ≢ Known → answers d.sessions.now.down_rest ≡ []
  pub offline : d.sessions.online ≡ false → d.reading.page ≡ None
  pub page : d.sessions.online ≡ true → IsPage keep first last d d.reading.page
  pub no_fault : d.reading.faulty ≡ false

-- A7. The log.

-- runs of consecutive numbers, the first above low, all through high
abbrev pub AreRuns : ℕ → ℕ → List (List ℕ) → Type 0
AreRuns low high [] = low ≤ high
AreRuns low high (run ∷ runs) =
    (from : ℕ) × (low ≤ from) × (1 ≤ length run) × (run ≡ following from (length run)) × AreRuns (from + length run) high runs

abbrev pub AreApart : List ℕ → Type 0
AreApart [] = Unit {0}
AreApart (n ∷ ns) = (is_number_among n ns ≡ false) × AreApart ns

-- the log's runs: the last one begins no later than the archive does now
pub record AreLogged (first last : ℕ) (broken : List (List ℕ)) (run : List ℕ) : Type 0 where
  pub from : ℕ
  pub is_run : run ≡ following from (length run)
  pub through : from + length run ≤ last
  pub reaches : (n : ℕ) → slice_get run 0 ≡ Some n → n ≤ first
  pub earlier : AreRuns 0 from broken
  pub none : run ≡ [] → broken ≡ []

pub record LogKept (first last : ℕ) (d : Device) : Type 0 where
  pub runs : AreLogged first last d.reading.broken d.reading.run
  pub apart : AreApart d.reading.held
  pub held : AllByRecursion (λ h. (is_number_among h (log_of d.reading) ≡ false) × (1 ≤ h) × (h ≤ last)) d.reading.held
  pub live : AllByRecursion (λ n. (1 ≤ n) × (n ≤ last)) (lives d.sessions.now.down_rest)

-- A8. The pages cut the log.

-- behind a log whose last number is n, a page has the numbers behind this one: the archive had given so many numbers
-- and kept the newest of them
abbrev pub start_of : ℕ → ℕ → Tile → ℕ
start_of keep n t = max n (t.given - keep)

-- to this one
abbrev pub end_of : ℕ → ℕ → Tile → ℕ
end_of keep n t = min (start_of keep n t + t.most) t.given

-- the numbers that the pages have
abbrev pub numbers_by : ℕ → ℕ → List Tile → List ℕ
numbers_by keep n [] = []
numbers_by keep n (t ∷ ts) =
    following (start_of keep n t) (end_of keep n t - start_of keep n t) ++ numbers_by keep (end_of keep n t) ts

-- the last number behind them
abbrev pub ends_at : ℕ → ℕ → List Tile → ℕ
ends_at keep n [] = n
ends_at keep n (t ∷ ts) = ends_at keep (end_of keep n t) ts

-- The page behind number n, of an archive that had given a number when it was asked for: without a place where n was
-- purged when it was answered, and complete where it reached the archive's last number.
pub record IsTile (keep n low : ℕ) (t : Tile) : Type 0 where
  pub after : t.after ≡ (if nat_le n (t.given - keep) then None else Some n)
  pub count : t.count ≡ end_of keep n t - start_of keep n t
  pub total : t.total ≡ (if nat_le (t.given - start_of keep n t) t.most then Some (min t.given keep) else None)
  pub some : 1 ≤ t.most
  pub asked : low ≤ t.began
  pub answered : t.began ≤ t.given
  pub over : t.given ≤ t.last

-- one page after the other
abbrev pub AreTiles : ℕ → ℕ → ℕ → ℕ → List Tile → Type 0
AreTiles keep n low high [] = low ≤ high
AreTiles keep n low high (t ∷ ts) = IsTile keep n low t × AreTiles keep (end_of keep n t) t.last high ts

-- the archive's last number when the last of the pages was over
abbrev pub top_of : ℕ → List Tile → ℕ
top_of low [] = low
top_of low (t ∷ ts) = top_of t.last ts

pub record TilesKept (keep last : ℕ) (b : Reading) : Type 0 where
  pub tiles : AreTiles keep 0 0 last b.tiles
  pub numbers : log_of b ≡ numbers_by keep 0 b.tiles
  pub page : (p : OpenPage) → b.page ≡ Some p → top_of 0 b.tiles ≤ p.began

-- A1 to A5 and A10, which are kept alone: of a device, and of the world.
pub record DeviceTaken (w : AppWorld) (i : ℕ) (d : Device) : Type 0 where
  pub sessions : SessionsKept d.sessions
  pub takes : TakesKept w.accounts w.takes i d
  pub made : MadeKept w.takes i d

pub record Taken (w : AppWorld) : Type 0 where
  pub placed : AllByRecursion (IsOfDevice w.accounts (length w.devices)) w.takes
  pub moments : AreMoments 0 w.clock w.takes
  pub devices : (i : ℕ) (d : Device) → slice_get w.devices i ≡ Some d → DeviceTaken w i d

-- A6 to A9, over these.
pub record DeviceRead (keep first last : ℕ) (d : Device) : Type 0 where
  pub page : PageKept keep first last d
  pub log : LogKept first last d
  pub tiles : TilesKept keep last d.reading

pub record Read (w : AppWorld) : Type 0 where
  pub keep : 1 ≤ w.keep
  pub devices : (i : ℕ) (d : Device) → slice_get w.devices i ≡ Some d →
      DeviceRead w.keep (first_of w.keep (last_of w.takes d.account)) (last_of w.takes d.account) d
