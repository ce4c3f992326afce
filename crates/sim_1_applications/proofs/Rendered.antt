-- The pages that a device took over, by turns: each is one page of an archive that had given a last number.
use Rattle.std.proofs.Common.{◌≡◌, ◌≢◌, ℕ, zero, suc, ◌+◌, ◌-◌, ◌<◌, ◌≤◌, ◌==◌, ◌^◌, min, Bool, true, false, cond, leb, List, [], ◌∷◌, ◌++◌, Option, Some, None, is_some, length, take, drop, map, refl, sym, ap, ◌∙◌, arith, inl, inr, le_trans}
use Rattle.std.proofs.lemmas.Bool.{cases_Bool, eq-eqb, false_from_ne_true, false≢true, or_parts}
use Rattle.std.proofs.lemmas.List.{drop_at, length-map, map-append, take_at}
use Rattle.std.proofs.lemmas.Option.{none-some, same_Some}
use Rattle.std.proofs.lemmas.Slice.Eq.{bytes_eq-Decides}
use Rattle.std.specs.List.{AllByRecursion, filter, filter_map, slice_get}
use Rattle.std.specs.Option.{option_map}
use Rattle.std.specs.Prelude.{◌||◌}
use Rattle.std.specs.Str.{bytes_eq}
use Rattle.mam_archive.proofs.IdDigits.{id_of_same}
use Rattle.mam_archive.proofs.NumberedEntries.{FollowFrom, at_position, entry_at, follow_all}
use Rattle.mam_archive.specs.Entries.{EntryView, entry_numbered}
use Rattle.mam_archive.specs.Ids.{id_of}
use Rattle.cmd_direct.proofs.Turns.{AreRising, Turn, end_of, id_of_entry, page_by, pages_by, rising_from, run_by, span, start_of, follow_span, length_span, turn_bounds}
use Rattle.cmd_direct.specs.Direct.{as_logged}
use Rattle.base_io.specs.Names.{is_among}
use Rattle.cmd_report.proofs.TakenArchives.{archive_few, archive_numbered, length-numbered_from}
use Rattle.cmd_report.specs.Takes.{concerns, entry_of}
use Rattle.cmd_schedule.specs.Contents.{Owned}
use Rattle.sim_1_applications.proofs.Intervals.{length_after}
use Rattle.sim_1_applications.specs.Answers.{following}
use Rattle.sim_1_applications.specs.Devices as sessions
use Rattle.sim_1_applications.specs.Devices.{Reading, Tile, last_of}
use Rattle.sim_1_applications.specs.Events.{is_number_among}
use Rattle.sim_1_applications.specs.Kept.{AreTiles, TilesKept, numbers_by}
use Rattle.sim_1_applications.specs.Kept as kept
use Rattle.sim_1_applications.specs.Reported.{entries_at, history_at, page_with, pages_of, pages_with, take_of}

abbrev pub turn_of : Tile → Turn
turn_of t = record { last = t.given; most = t.most }

abbrev pub turns_of : List Tile → List Turn
turns_of ts = map turn_of ts

-- Histories.

pub history_follows : (owned : List Owned) (takes : List sessions.Take) (account : List ℕ) → FollowFrom 1 (history_at owned takes account)
history_follows owned takes account = follow_all (history_at owned takes account) (archive_numbered account (map (take_of owned) takes))

concerned : (owned : List Owned) (account : List ℕ) (takes : List sessions.Take) → length (filter (concerns account) (map (take_of owned) takes)) ≡ length (filter (sessions.concerns account) takes)
concerned owned account [] = refl
concerned owned account (t ∷ takes) = chosen (sessions.concerns account t) (concerned owned account takes)
  where
    chosen : (b : Bool) → length (filter (concerns account) (map (take_of owned) takes)) ≡ length (filter (sessions.concerns account) takes) →
        length (cond b (take_of owned t ∷ filter (concerns account) (map (take_of owned) takes)) (filter (concerns account) (map (take_of owned) takes)))
        ≡ length (cond b (t ∷ filter (sessions.concerns account) takes) (filter (sessions.concerns account) takes))
    chosen true same = ap suc same
    chosen false same = same

pub history_long : (owned : List Owned) (takes : List sessions.Take) (account : List ℕ) → length (history_at owned takes account) ≡ last_of takes account
unfolding last_of
history_long owned takes account =
    length-numbered_from 1 (map entry_of (filter (concerns account) (map (take_of owned) takes)))
    ∙ length-map (filter (concerns account) (map (take_of owned) takes)) entry_of
    ∙ concerned owned account takes

pub history_few : (owned : List Owned) (takes : List sessions.Take) (account : List ℕ) → length (history_at owned takes account) ≤ length takes
history_few owned takes account = omega (arith, archive_few account (map (take_of owned) takes), length-map takes (take_of owned))

-- Entries by numbers.

drop_step : (history : List EntryView) (s : ℕ) (e : EntryView) → slice_get history s ≡ Some e → drop s history ≡ e ∷ drop (suc s) history
drop_step [] s e at = absurd (none-some e at)
drop_step (x ∷ history) zero e at = ap (λ y. y ∷ history) (same_Some x e at)
drop_step (x ∷ history) (suc s) e at = drop_step history s e at

found_next : (f : ℕ → Option EntryView) (n : ℕ) (ns : List ℕ) (e : EntryView) → f n ≡ Some e → filter_map f (n ∷ ns) ≡ e ∷ filter_map f ns
found_next f n ns e is = rw is refl

pub entries_span : (history : List EntryView) (s k : ℕ) → FollowFrom 1 history → s + k ≤ length history → entries_at history (following s k) ≡ take k (drop s history)
entries_span history s zero follow within = refl
entries_span history s (suc k) follow within =
    let found = at_position s history (omega arith) in
    let position : suc s - 1 ≡ s = omega arith in
    let here : entry_numbered (suc s) history ≡ Some found.0 = entry_at (suc s) 1 history follow (omega arith) ∙ ap (slice_get history) position ∙ found.1 in
    found_next (λ n. entry_numbered n history) (suc s) (following (suc s) k) found.0 here
    ∙ ap (λ es. found.0 ∷ es) (entries_span history (suc s) k follow (omega arith))
    ∙ ap (take (suc k)) (sym (drop_step history s found.0 found.1))

-- Pages.

option_cond : (b : Bool) (n : ℕ) → option_map id_of (cond b None (Some n)) ≡ cond b None (Some (id_of n))
option_cond true n = refl
option_cond false n = refl

some_cond : (b : Bool) (n : ℕ) → is_some (cond b (Some n) None) ≡ b
some_cond true n = refl
some_cond false n = refl

page_rendered : (keep n high : ℕ) (history : List EntryView) (t : Tile) (numbers rest : List ℕ) → 1 ≤ keep → n ≤ t.given → 1 ≤ t.most → t.given ≤ length history → FollowFrom 1 history →
    t.after ≡ cond (leb n (t.given - keep)) None (Some n) → t.count ≡ end_of keep n (turn_of t) - start_of keep n (turn_of t) →
    t.total ≡ cond (leb (t.given - start_of keep n (turn_of t)) t.most) (Some (min t.given keep)) None →
    numbers ≡ following (start_of keep n (turn_of t)) (end_of keep n (turn_of t) - start_of keep n (turn_of t)) ++ rest →
    page_with keep history t numbers ≡ page_by keep history n (turn_of t)
page_rendered keep n high history t numbers rest some within many long follow after count total is =
    let s = start_of keep n (turn_of t) in
    let e = end_of keep n (turn_of t) in
    let bounds = turn_bounds keep n (turn_of t) some many within in
    let size = length_after s (e - s) in
    let first : take t.count numbers ≡ following s (e - s) = ap (take t.count) is ∙ take_at (following s (e - s)) rest t.count (size ∙ sym count) in
    let top : s + (e - s) ≤ length history = let up = bounds.1 in let high = bounds.2 in omega arith in
    let entries : entries_at history (take t.count numbers) ≡ span s e history = ap (entries_at history) first ∙ entries_span history s (e - s) follow top in
    ap (λ a. record { after = a; entries = map as_logged (entries_at history (take t.count numbers)); complete = is_some t.total; total = min t.given keep }) (ap (option_map id_of) after ∙ option_cond (leb n (t.given - keep)) n)
    ∙ ap (λ es. record { after = cond (leb n (t.given - keep)) None (Some (id_of n)); entries = map as_logged es; complete = is_some t.total; total = min t.given keep }) entries
    ∙ ap (λ c. record { after = cond (leb n (t.given - keep)) None (Some (id_of n)); entries = map as_logged (span s e history); complete = c; total = min t.given keep }) (ap is_some total ∙ some_cond (leb (t.given - s) t.most) (min t.given keep))

pub tiles_within : (keep m low high : ℕ) (ts : List Tile) → AreTiles keep m low high ts → low ≤ high
tiles_within keep m low high [] is = is
tiles_within keep m low high (u ∷ us) is =
    let one = is.0 in
    let a = one.asked in
    let b = one.answered in
    let c = one.over in
    let d = tiles_within keep (kept.end_of keep m u) u.last high us is.1 in
    omega arith

pub pages_rendered : (keep n low high : ℕ) (history : List EntryView) (ts : List Tile) → 1 ≤ keep → n ≤ low → AreTiles keep n low high ts → high ≤ length history → FollowFrom 1 history →
    pages_with keep history ts (numbers_by keep n ts) ≡ pages_by keep history n (turns_of ts)
pages_rendered keep n low high history [] some below known long follow = refl
pages_rendered keep n low high history (t ∷ ts) some below known long follow =
    let tile = known.0 in
    let s = start_of keep n (turn_of t) in
    let e = end_of keep n (turn_of t) in
    let rest = numbers_by keep e ts in
    let within : n ≤ t.given = le_trans (le_trans below tile.asked) tile.answered in
    let top : t.last ≤ high = tiles_within keep e t.last high ts known.1 in
    let bounds = turn_bounds keep n (turn_of t) some tile.some within in
    let size : length (following s (e - s)) ≡ t.count = length_after s (e - s) ∙ sym tile.count in
    let page = page_rendered keep n high history t (following s (e - s) ++ rest) rest some within tile.some (le_trans (le_trans tile.over top) long) follow tile.after tile.count tile.total refl in
    ap (λ p. p ∷ pages_with keep history ts (drop t.count (following s (e - s) ++ rest))) page
    ∙ ap (λ ns. page_by keep history n (turn_of t) ∷ pages_with keep history ts ns) (drop_at (following s (e - s)) rest t.count size)
    ∙ ap (λ ps. page_by keep history n (turn_of t) ∷ ps) (pages_rendered keep e t.last high history ts some (le_trans bounds.2 tile.over) known.1 long follow)

pub turns_rise : (keep n low high : ℕ) (ts : List Tile) → AreTiles keep n low high ts → AreRising low high (turns_of ts)
turns_rise keep n low high [] known = known
turns_rise keep n low high (t ∷ ts) known =
    let tile = known.0 in
    let a = tile.asked in
    let b = tile.answered in
    (omega arith, tile.some, rising_from t.given t.last high (turns_of ts) tile.over (turns_rise keep (kept.end_of keep n t) t.last high ts known.1))

-- the pages of a device are those of its turns
pub device_rendered : (keep last : ℕ) (history : List EntryView) (b : Reading) → 1 ≤ keep → TilesKept keep last b → last ≡ length history → FollowFrom 1 history →
    pages_of keep history b ≡ pages_by keep history 0 (turns_of b.tiles)
device_rendered keep last history b some tiles long follow =
    ap (pages_with keep history b.tiles) tiles.numbers
    ∙ pages_rendered keep 0 0 last history b.tiles some (omega arith) tiles.tiles (omega arith) follow

-- Numbers and ids.

abbrev pub number_of : EntryView → ℕ
number_of e = e.number

pub numbers_follow : (s : ℕ) (es : List EntryView) → FollowFrom (suc s) es → map number_of es ≡ following s (length es)
numbers_follow s [] follow = refl
numbers_follow s (e ∷ es) follow = ap (λ n. n ∷ map number_of es) follow.0 ∙ ap (λ ns. suc s ∷ ns) (numbers_follow (suc s) es follow.1)

pub run_numbers : (keep n low high : ℕ) (history : List EntryView) (ts : List Tile) → 1 ≤ keep → n ≤ low → AreTiles keep n low high ts → high ≤ length history → FollowFrom 1 history →
    map number_of (run_by keep history n (turns_of ts)) ≡ numbers_by keep n ts
run_numbers keep n low high history [] some below known long follow = refl
run_numbers keep n low high history (t ∷ ts) some below known long follow =
    let tile = known.0 in
    let s = start_of keep n (turn_of t) in
    let e = end_of keep n (turn_of t) in
    let within : n ≤ t.given = le_trans (le_trans below tile.asked) tile.answered in
    let top : t.last ≤ high = tiles_within keep e t.last high ts known.1 in
    let bounds = turn_bounds keep n (turn_of t) some tile.some within in
    let size : length (span s e history) ≡ e - s = length_span s e history (four bounds.2 tile.over top long) in
    map-append number_of (span s e history) (run_by keep history e (turns_of ts))
    ∙ ap (λ ns. ns ++ map number_of (run_by keep history e (turns_of ts))) (numbers_follow s (span s e history) (follow_span s e history follow) ∙ ap (following s) size)
    ∙ ap (λ ns. following s (e - s) ++ ns) (run_numbers keep e t.last high history ts some (le_trans bounds.2 tile.over) known.1 long follow)
  where
    four : {a b c d e : ℕ} → a ≤ b → b ≤ c → c ≤ d → d ≤ e → a ≤ e
    four first second third fourth = omega arith

ids_differ : (m n : ℕ) → m < 2 ^ 64 → n < 2 ^ 64 → (m == n) ≡ false → bytes_eq (id_of m) (id_of n) ≡ false
ids_differ m n small few other =
    false_from_ne_true (bytes_eq (id_of m) (id_of n)) (λ same. let is = id_of_same m n small few ((bytes_eq-Decides (id_of m) (id_of n)).0 same) in false≢true (sym other ∙ eq-eqb m n is))

-- a number that isn't among these has an id that isn't
pub id_not_among : (h : ℕ) (es : List EntryView) → h < 2 ^ 64 → AllByRecursion (λ e. e.number < 2 ^ 64) es → is_number_among h (map number_of es) ≡ false → is_among (id_of h) (map id_of_entry es) ≡ false
id_not_among h [] small few none = refl
id_not_among h (e ∷ es) small few none =
    let parts = or_parts (h == e.number) (is_number_among h (map number_of es)) none in
    ap (λ b. b || is_among (id_of h) (map id_of_entry es)) (ids_differ h e.number small few.0 parts.0) ∙ id_not_among h es small few.1 parts.1

-- each number up to the last has its id in the history
pub id_from : (s k : ℕ) (es : List EntryView) → FollowFrom s es → s ≤ k → k < s + length es → is_among (id_of k) (map id_of_entry es) ≡ true
id_from s k [] follow low high = absurd (omega arith)
id_from s k (e ∷ es) follow low high =
    elim (cases_Bool (bytes_eq (id_of k) (id_of e.number))) [
      | inl hit ↦ ap (λ b. b || is_among (id_of k) (map id_of_entry es)) hit
      | inr miss ↦
          let number : e.number ≡ s = follow.0 in
          let other : k ≢ s = λ same. false≢true (sym miss ∙ (bytes_eq-Decides (id_of k) (id_of e.number)).1 (ap id_of (same ∙ sym number))) in
          let above : suc s ≤ k = beyond s k low other in
          ap (λ b. b || is_among (id_of k) (map id_of_entry es)) miss ∙ id_from (suc s) k es follow.1 above (omega arith)
    ]
  where
    beyond : (a b : ℕ) → a ≤ b → b ≢ a → suc a ≤ b
    beyond a b below differs = omega arith

pub id_in_history : (h : ℕ) (history : List EntryView) → FollowFrom 1 history → 1 ≤ h → h ≤ length history → is_among (id_of h) (map id_of_entry history) ≡ true
id_in_history h history follow some within = id_from 1 h history follow some (omega arith)
