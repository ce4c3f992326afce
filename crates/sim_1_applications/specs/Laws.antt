-- Laws that follow from what is kept.
use Rattle.std.specs.Prelude.{◌≡◌, ℕ, ◌<◌, ◌≤◌, ◌⊎◌, true, List, [], ◌∷◌, ◌++◌, None, map, filter, take}
use Rattle.std.specs.List.{AllByRecursion}
use Rattle.sim_1_applications.specs.Stanzas.{Submission, messages}
use Rattle.sim_1_applications.specs.Devices.{Take, Session, Device, up_put, log_of}
use Rattle.sim_1_applications.specs.Devices.Row.{Present}
use Rattle.sim_1_applications.specs.Answers.{last_in}
use Rattle.sim_1_applications.specs.Events.{is_among, is_number_among, number_or_none}
use Rattle.sim_1_applications.specs.Kept.{is_of, said_in, accepted}

-- each pair of an element and a later one
abbrev pub EachPair : {A : Type 0} → (A → A → Type 0) → List A → Type 0
EachPair R [] = Unit {0}
EachPair R (x ∷ xs) = AllByRecursion (R x) xs × EachPair R xs

abbrev pub Precedes : Submission → Submission → Type 0
Precedes a b = (a.epoch < b.epoch) ⊎ ((a.epoch ≡ b.epoch) × (a.n < b.n))

-- the takes of a device rise, so that none comes twice
pub record IsOnceInOrder (takes : List Take) (i : ℕ) : Type 0 where
  pub rise : EachPair Precedes (map said_in (filter (is_of i) takes))

-- the takes of a device among these are of epochs above this one
abbrev pub AreAbove : ℕ → ℕ → List Take → Type 0
AreAbove epoch i takes = AllByRecursion (λ t. epoch < t.said.epoch) (filter (is_of i) takes)

-- of a session a front of the submissions to accounts that exist was taken, and what was acknowledged is within it
pub record IsFrontTaken (accounts : List (List ℕ)) (s : Session) : Type 0 where
  pub gapless : filter (λ m. is_among m.to accounts) (messages (up_put s)) ≡ accepted accounts s ++ filter (λ m. is_among m.to accounts) (messages s.up_rest)
  pub acknowledged : take s.acked (up_put s) ≡ take s.acked s.up_got

-- every entry that is still kept, and isn't behind the log's last, is logged
abbrev pub IsUpToLast : ℕ → Device → Type 0
IsUpToLast first d = (n : ℕ) → first ≤ n → n ≤ number_or_none (last_in d.reading.run) → is_number_among n (log_of d.reading) ≡ true

-- where the client has its session, the server has it too and nothing is under way, no page is
abbrev pub IsSettled : Device → Type 0
IsSettled d = d.sessions.online ≡ true → d.sessions.row ≡ Present → d.sessions.now.up_rest ≡ [] → d.sessions.now.down_rest ≡ [] → d.reading.page ≡ None
