-- The lines of a log by turns: they are runs of the history, and each entry that is still kept, up to the last one
-- logged, is among them.
use Rattle.std.proofs.Common.{◌≡◌, ◌≢◌, ℕ, zero, suc, ◌+◌, ◌-◌, ◌<◌, ◌≤◌, ◌^◌, max, Bool, true, false, cond, ltb, leb, List, [], ◌∷◌, ◌++◌, Option, Some, None, length, take, drop, map, refl, sym, ap, ◌∙◌, arith, inl, inr}
use Rattle.std.proofs.lemmas.Bool.{cases_Bool, cases_lt, leb-false, lt-ltb, or_right, true≢false}
use Rattle.std.proofs.lemmas.List.{append_assoc, append-nil, drop-drop, length-map, map-append, take-append-drop}
use Rattle.std.proofs.lemmas.List.Folds.{list_any-append}
use Rattle.std.proofs.lemmas.Option.{slice_get_within}
use Rattle.std.specs.List.{AllByRecursion, slice_get}
use Rattle.std.specs.Str.{bytes_eq}
use Rattle.mam_archive.proofs.IdDigits.{id_of_same}
use Rattle.mam_archive.proofs.NumberedEntries.{FollowFrom, follow_at, follow_drop}
use Rattle.mam_archive.specs.Entries.{EntryView, entry_numbered}
use Rattle.mam_archive.specs.Ids.{id_of}
use Rattle.base_lemmas.proofs.Lists.{AllByRecursion-weaker}
use Rattle.cmd_direct.proofs.NextPages.{entry_is}
use Rattle.cmd_direct.proofs.Turns.{AreRising, Turn, end_of, ends_at, follow_span, id_of_entry, last_of, length_span, log_by, pages_by, rising_bounds, run_by, span, span_join, start_of, turn_bounds, turn_empty}
use Rattle.cmd_direct.specs.Direct.{as_logged}
use Rattle.base_io.specs.Names.{is_among}
use Rattle.mam_log.specs.LogPages.{LogPage, log_of}
use Rattle.mam_log.specs.declared.log_entry.LogEntry.{LogEntry}
use Rattle.mam_pages.specs.Kept.{last_number_or}
use Rattle.cmd_report.specs.EntryLines.{EntryLineView}
use Rattle.cmd_report.specs.Lawful.{EachPair, last_logged}
use Rattle.cmd_report.specs.LawfulRuns.{AreRuns, AreRunsAfter}
use Rattle.cmd_report.specs.Lines.{entry_line, is_break, logged_after, logged_from, logged_line}
use Rattle.cmd_report.specs.declared.report.LoggedLine.{LoggedLine}
use Rattle.cmd_schedule.proofs.Lists.{all_append, each_among, map-map}

-- Lines.

abbrev pub line_entry : LoggedLine → EntryLineView
line_entry l = l.entry

abbrev pub line_id : LoggedLine → List ℕ
line_id l = l.entry.id

abbrev line_of_log : LogEntry → EntryLineView
line_of_log l = line_entry (logged_line false l)

entries_after : (broken : Bool) (es : List LogEntry) → map line_entry (logged_after broken es) ≡ map line_of_log es
entries_after broken [] = refl
entries_after broken (e ∷ es) = ap (λ t. line_of_log e ∷ t) (map-map (logged_line false) line_entry es)

pub entries_logged : (c : ℕ) (pages : List LogPage) → map line_entry (logged_from c pages) ≡ map line_of_log (log_of pages)
entries_logged c [] = refl
entries_logged c (page ∷ pages) =
    let here = logged_after (is_break c page.after) page.entries in
    let rest = logged_from (c + length page.entries) pages in
    map-append line_entry here rest
    ∙ ap (λ es. es ++ map line_entry rest) (entries_after (is_break c page.after) page.entries)
    ∙ ap (λ es. map line_of_log page.entries ++ es) (entries_logged (c + length page.entries) pages)
    ∙ sym (map-append line_of_log page.entries (log_of pages))

pub lines_by : (keep n c : ℕ) (history : List EntryView) (turns : List Turn) →
    map line_entry (logged_from c (pages_by keep history n turns)) ≡ map entry_line (run_by keep history n turns)
lines_by keep n c history turns =
    entries_logged c (pages_by keep history n turns)
    ∙ ap (map line_of_log) (log_by keep n history turns)
    ∙ map-map as_logged line_of_log (run_by keep history n turns)

pub ids_from : (lines : List LoggedLine) (es : List EntryView) → map line_entry lines ≡ map entry_line es → map line_id lines ≡ map id_of_entry es
ids_from lines es same =
    sym (map-map line_entry (λ (v : EntryLineView). v.id) lines)
    ∙ ap (map (λ (v : EntryLineView). v.id)) same
    ∙ map-map entry_line (λ (v : EntryLineView). v.id) es

pub length_after : (broken : Bool) (es : List LogEntry) → length (logged_after broken es) ≡ length es
length_after broken [] = refl
length_after broken (e ∷ es) = ap suc (length-map es (logged_line false))

pub length_logged : (c : ℕ) (pages : List LogPage) → length (logged_from c pages) ≡ length (log_of pages)
length_logged c pages =
    sym (length-map (logged_from c pages) line_entry) ∙ ap length (entries_logged c pages) ∙ length-map (log_of pages) line_of_log

pub last_logged_of : (lines : List LoggedLine) → last_logged lines ≡ last_of (map line_id lines)
last_logged_of [] = refl
last_logged_of (l ∷ []) = refl
last_logged_of (l ∷ m ∷ lines) = last_logged_of (m ∷ lines)

-- What is known of one turn.

pub record Goes (keep n : ℕ) (history : List EntryView) (turn : Turn) : Type 0 where
  pub inside : n ≤ turn.last
  pub on : n ≤ start_of keep n turn
  pub up : start_of keep n turn ≤ end_of keep n turn
  pub within : end_of keep n turn ≤ turn.last
  pub size : length (span (start_of keep n turn) (end_of keep n turn) history) ≡ end_of keep n turn - start_of keep n turn
  pub whole : start_of keep n turn + length (span (start_of keep n turn) (end_of keep n turn) history) ≡ end_of keep n turn
  pub empty : length (span (start_of keep n turn) (end_of keep n turn) history) ≡ 0 → n ≡ start_of keep n turn
  pub follow : FollowFrom (suc (start_of keep n turn)) (span (start_of keep n turn) (end_of keep n turn) history)

le_all : {a b c d : ℕ} → a ≤ b → b ≤ c → c ≤ d → a ≤ d
le_all first second third = omega arith

pub le_two : {a b c : ℕ} → a ≤ b → b ≤ c → a ≤ c
le_two first second = omega arith

sum_back : {a s t : ℕ} → a ≡ t - s → s ≤ t → s + a ≡ t
sum_back is low = omega arith

pub goes : (keep n low high : ℕ) (history : List EntryView) (turn : Turn) → 1 ≤ keep → n ≤ low → low ≤ turn.last → 1 ≤ turn.most → turn.last ≤ high →
    high ≤ length history → FollowFrom 1 history → Goes keep n history turn
goes keep n low high history turn some within rise asked top long follow =
    let inside : n ≤ turn.last = le_two within rise in
    let bounds = turn_bounds keep n turn some asked inside in
    let size = length_span (start_of keep n turn) (end_of keep n turn) history (le_all bounds.2 top long) in
    record {
      inside = inside;
      on = bounds.0;
      up = bounds.1;
      within = bounds.2;
      size = size;
      whole = sum_back size bounds.1;
      empty = λ none. turn_empty keep n turn some asked inside (sym size ∙ none);
      follow = follow_span (start_of keep n turn) (end_of keep n turn) history follow;
    }

-- Runs.

runs_further : (before : EntryView) (s : ℕ) (es rest : List EntryView) (lines : List LoggedLine) → FollowFrom (suc s) es → before.number ≡ s →
    ((b : EntryView) → b.number ≡ s + length es → AreRunsAfter b rest lines) →
    AreRunsAfter before (es ++ rest) (map (logged_line false) (map as_logged es) ++ lines)
runs_further before s [] rest lines follow is more = more before (omega arith)
runs_further before s (e ∷ es) rest lines follow is more =
    let number : e.number ≡ suc s = follow.0 in
    (omega arith, λ unbroken. omega arith, runs_further e (suc s) es rest lines follow.1 number (λ b end. more b (omega arith)))

runs_joined : (before : EntryView) (s : ℕ) (broken : Bool) (es rest : List EntryView) (lines : List LoggedLine) → FollowFrom (suc s) es → before.number ≤ s →
    (broken ≡ false → before.number ≡ s) → (length es ≡ 0 → before.number ≡ s) →
    ((b : EntryView) → b.number ≡ s + length es → AreRunsAfter b rest lines) →
    AreRunsAfter before (es ++ rest) (logged_after broken (map as_logged es) ++ lines)
runs_joined before s broken [] rest lines follow low joined empty more = more before (omega (arith, empty refl))
runs_joined before s broken (e ∷ es) rest lines follow low joined empty more =
    let number : e.number ≡ suc s = follow.0 in
    (omega arith, λ unbroken. omega (arith, joined unbroken), runs_further e (suc s) es rest lines follow.1 number (λ b end. more b (omega arith)))

runs_start : (s : ℕ) (broken : Bool) (es rest : List EntryView) (lines : List LoggedLine) → FollowFrom (suc s) es → broken ≡ false →
    (length es ≡ 0 → AreRuns rest lines) → (1 ≤ length es → (b : EntryView) → b.number ≡ s + length es → AreRunsAfter b rest lines) →
    AreRuns (es ++ rest) (logged_after broken (map as_logged es) ++ lines)
runs_start s broken [] rest lines follow unbroken none more = none refl
runs_start s broken (e ∷ es) rest lines follow unbroken none more =
    (unbroken, runs_further e (suc s) es rest lines follow.1 follow.0 (λ b end. more (omega arith) b (omega arith)))

-- a page behind an entry, asked for with its id, begins no run
not_purged : (c n old : ℕ) (id : List ℕ) → 1 ≤ c → is_break c (cond (leb n old) None (Some id)) ≡ false → old < n
not_purged c n old id some unbroken =
    elim (cases_Bool (leb n old)) [
      | inl old_one ↦
          let broken : ltb 0 c ≡ true = lt-ltb 0 c some in
          let whole : is_break c None ≡ false = rw old_one at unbroken in
          absurd (true≢false (sym broken ∙ whole))
      | inr newer ↦ leb-false n old newer
    ]

nothing_broken : (c : ℕ) (after : Option (List ℕ)) → c ≡ 0 → is_break c after ≡ false
nothing_broken zero None is = refl
nothing_broken zero (Some id) is = refl
nothing_broken (suc c) after is = absurd (omega arith)

runs_after : (keep n low high c : ℕ) (history : List EntryView) (turns : List Turn) (before : EntryView) → 1 ≤ keep → n ≤ low → AreRising low high turns →
    high ≤ length history → FollowFrom 1 history → before.number ≡ n → 1 ≤ c →
    AreRunsAfter before (run_by keep history n turns) (logged_from c (pages_by keep history n turns))
runs_after keep n low high c history [] before some within rise long follow is logged = tt
runs_after keep n low high c history (turn ∷ turns) before some within rise long follow is logged =
    let s = start_of keep n turn in
    let t = end_of keep n turn in
    let go = goes keep n low high history turn some within rise.0 rise.1 (rising_bounds turn.last high turns rise.2) long follow in
    let more = c + length (map as_logged (span s t history)) in
    runs_joined before s (is_break c (cond (leb n (turn.last - keep)) None (Some (id_of n)))) (span s t history) (run_by keep history t turns)
    (logged_from more (pages_by keep history t turns)) go.follow (rw is go.on)
    (λ unbroken. let new : turn.last - keep < n = not_purged c n (turn.last - keep) (id_of n) logged unbroken in is ∙ stays new)
    (λ none. is ∙ go.empty none)
    (λ b at. runs_after keep t turn.last high more history turns b some go.within rise.2 long follow (at ∙ go.whole) (up_more c (length (map as_logged (span s t history))) logged))
  where
    stays : {n old : ℕ} → old < n → n ≡ max n old
    stays new = omega arith

    up_more : (c k : ℕ) → 1 ≤ c → 1 ≤ c + k
    up_more c k logged = omega arith

pub runs_by : (keep n low high c : ℕ) (history : List EntryView) (turns : List Turn) → 1 ≤ keep → n ≤ low → AreRising low high turns →
    high ≤ length history → FollowFrom 1 history → n ≡ 0 → c ≡ 0 →
    AreRuns (run_by keep history n turns) (logged_from c (pages_by keep history n turns))
runs_by keep n low high c history [] some within rise long follow none nothing = tt
runs_by keep n low high c history (turn ∷ turns) some within rise long follow none nothing =
    let s = start_of keep n turn in
    let t = end_of keep n turn in
    let go = goes keep n low high history turn some within rise.0 rise.1 (rising_bounds turn.last high turns rise.2) long follow in
    let more = c + length (map as_logged (span s t history)) in
    let size : length (map as_logged (span s t history)) ≡ length (span s t history) = length-map (span s t history) as_logged in
    runs_start s (is_break c (cond (leb n (turn.last - keep)) None (Some (id_of n)))) (span s t history) (run_by keep history t turns)
    (logged_from more (pages_by keep history t turns)) go.follow (nothing_broken c (cond (leb n (turn.last - keep)) None (Some (id_of n))) nothing)
    (λ empty. runs_by keep t turn.last high more history turns some go.within rise.2 long follow (still go.whole (go.empty empty) empty none) (sum_zero nothing (size ∙ empty)))
    (λ full b at. runs_after keep t turn.last high more history turns b some go.within rise.2 long follow (at ∙ go.whole) (some_more c (length (map as_logged (span s t history))) (length (span s t history)) size full))
  where
    still : {n s k t : ℕ} → s + k ≡ t → n ≡ s → k ≡ 0 → n ≡ 0 → t ≡ 0
    still whole same empty none = omega arith

    sum_zero : {a b : ℕ} → a ≡ 0 → b ≡ 0 → a + b ≡ 0
    sum_zero first second = omega arith

    some_more : (c k m : ℕ) → k ≡ m → 1 ≤ m → 1 ≤ c + k
    some_more c k m same full = omega arith

-- The entries are those of the history.

pub all_positions : {A : Type 0} (P : A → Type 0) (xs : List A) → ((i : ℕ) (x : A) → slice_get xs i ≡ Some x → P x) → AllByRecursion P xs
all_positions P [] each = tt
all_positions P (x ∷ xs) each = (each zero x refl, all_positions P xs (λ i y at. each (suc i) y at))

all_take : {A : Type 0} (P : A → Type 0) (k : ℕ) (xs : List A) → AllByRecursion P xs → AllByRecursion P (take k xs)
all_take P zero xs all = tt
all_take P (suc k) [] all = tt
all_take P (suc k) (x ∷ xs) all = (all.0, all_take P k xs all.1)

all_drop : {A : Type 0} (P : A → Type 0) (k : ℕ) (xs : List A) → AllByRecursion P xs → AllByRecursion P (drop k xs)
all_drop P zero xs all = all
all_drop P (suc k) [] all = tt
all_drop P (suc k) (x ∷ xs) all = all_drop P k xs all.1

pub each_by : (P : EntryView → Type 0) (keep n : ℕ) (history : List EntryView) (turns : List Turn) → AllByRecursion P history → AllByRecursion P (run_by keep history n turns)
each_by P keep n history [] all = tt
each_by P keep n history (turn ∷ turns) all =
    let s = start_of keep n turn in
    let t = end_of keep n turn in
    all_append P (span s t history) (run_by keep history t turns) (all_take P (t - s) (drop s history) (all_drop P s history all)) (each_by P keep t history turns all)

pub in_history : (history : List EntryView) → FollowFrom 1 history → AllByRecursion (λ e. entry_numbered e.number history ≡ Some e) history
in_history history follow = all_positions (λ e. entry_numbered e.number history ≡ Some e) history (λ i e at. entry_is 1 history follow i e at)

pub numbers_within : (history : List EntryView) → FollowFrom 1 history → AllByRecursion (λ e. e.number ≤ length history) history
numbers_within history follow =
    all_positions (λ e. e.number ≤ length history) history
    (λ i e at.
    let number : e.number ≡ 1 + i = follow_at 1 history i e follow at in
    let there : i < length history = slice_get_within history i e at in
    omega arith)

-- The last number.

pub number_follow : (m s : ℕ) (es rest : List EntryView) → FollowFrom (suc s) es → (length es ≡ 0 → m ≡ s) → last_number_or m (es ++ rest) ≡ last_number_or (s + length es) rest
number_follow m s [] rest follow empty = let same : m ≡ s + 0 = omega (arith, empty refl) in ap (λ k. last_number_or k rest) same
number_follow m s (e ∷ es) rest follow empty =
    let size : suc s + length es ≡ s + length (e ∷ es) = omega arith in
    number_follow e.number (suc s) es rest follow.1 (λ none. follow.0) ∙ ap (λ k. last_number_or k rest) size

pub last_number_by : (keep n low high : ℕ) (history : List EntryView) (turns : List Turn) → 1 ≤ keep → n ≤ low → AreRising low high turns →
    high ≤ length history → FollowFrom 1 history → last_number_or n (run_by keep history n turns) ≡ ends_at keep n turns
last_number_by keep n low high history [] some within rise long follow = refl
last_number_by keep n low high history (turn ∷ turns) some within rise long follow =
    let s = start_of keep n turn in
    let t = end_of keep n turn in
    let go = goes keep n low high history turn some within rise.0 rise.1 (rising_bounds turn.last high turns rise.2) long follow in
    number_follow n s (span s t history) (run_by keep history t turns) go.follow go.empty
    ∙ ap (λ k. last_number_or k (run_by keep history t turns)) go.whole
    ∙ last_number_by keep t turn.last high history turns some go.within rise.2 long follow

-- Behind what was purged all is logged.

-- the log ends with the entries behind number p, to number n
pub record EndsIn (p n : ℕ) (history log : List EntryView) : Type 0 where
  pub front : List EntryView
  pub joined : log ≡ front ++ span p n history

ends_in : (keep n low high p : ℕ) (history : List EntryView) (turns : List Turn) (before : List EntryView) → 1 ≤ keep → n ≤ low → AreRising low high turns →
    high ≤ length history → FollowFrom 1 history → high - keep ≤ p → p ≤ ends_at keep n turns → (p ≤ n → EndsIn p n history before) →
    EndsIn p (ends_at keep n turns) history (before ++ run_by keep history n turns)
ends_in keep n low high p history [] before some within rise long follow old below known =
    let end = known below in
    record { front = end.front; joined = append-nil before ∙ end.joined }
ends_in keep n low high p history (turn ∷ turns) before some within rise long follow old below known =
    let s = start_of keep n turn in
    let t = end_of keep n turn in
    let top = rising_bounds turn.last high turns rise.2 in
    let go = goes keep n low high history turn some within rise.0 rise.1 top long follow in
    let gone : turn.last - keep ≤ p = less_gone turn.last high keep p top old in
    let here : p ≤ t → EndsIn p t history (before ++ span s t history) = λ up.
    elim (cases_lt n p) [
      | inl beyond ↦ record {
        front = before ++ span s p history;
        joined = ap (λ es. before ++ es) (sym (span_join s p t history (max_below beyond gone) up)) ∙ sym (append_assoc before (span s p history) (span p t history));
      }
      | inr inside ↦
          let end = known inside in
          let same : s ≡ n = max_stays inside gone in
          record {
            front = end.front;
            joined = ap (λ k. before ++ span k t history) same ∙ ap (λ es. es ++ span n t history) end.joined ∙ append_assoc end.front (span p n history) (span n t history)
                ∙ ap (λ es. end.front ++ es) (span_join p n t history inside (le_two go.on go.up));
          }
    ] in
    let rest = ends_in keep t turn.last high p history turns (before ++ span s t history) some go.within rise.2 long follow old below here in
    record { front = rest.front; joined = sym (append_assoc before (span s t history) (run_by keep history t turns)) ∙ rest.joined }
  where
    less_gone : (last high keep p : ℕ) → last ≤ high → high - keep ≤ p → last - keep ≤ p
    less_gone last high keep p top old = omega arith

    max_below : {n p q : ℕ} → n < p → q ≤ p → max n q ≤ p
    max_below beyond gone = omega arith

    max_stays : {n p q : ℕ} → p ≤ n → q ≤ p → max n q ≡ n
    max_stays inside gone = omega arith

pub ends_by : (keep high p : ℕ) (history : List EntryView) (turns : List Turn) → 1 ≤ keep → AreRising 0 high turns → high ≤ length history → FollowFrom 1 history →
    high - keep ≤ p → p ≤ ends_at keep 0 turns → EndsIn p (ends_at keep 0 turns) history (run_by keep history 0 turns)
ends_by keep high p history turns some rise long follow old below =
    ends_in keep 0 0 high p history turns [] some (omega arith) rise long follow old below
    (λ none. let nothing : 0 - p ≡ 0 = omega arith in record { front = []; joined = ap (λ k. take k (drop p history)) (sym nothing) })

all_unmap : {A B : Type 0} (P : B → Type 0) (f : A → B) (xs : List A) → AllByRecursion P (map f xs) → AllByRecursion (λ x. P (f x)) xs
all_unmap P f [] all = tt
all_unmap P f (x ∷ xs) all = (all.0, all_unmap P f xs all.1)

numbers_above : (s : ℕ) (es : List EntryView) → FollowFrom (suc s) es → AllByRecursion (λ e. s < e.number) es
numbers_above s [] follow = tt
numbers_above s (e ∷ es) follow =
    let number : e.number ≡ suc s = follow.0 in
    (omega arith, AllByRecursion-weaker (λ f. suc s < f.number) (λ f. s < f.number) (λ f above. omega arith) es (numbers_above (suc s) es follow.1))

above_dropped : (s : ℕ) (history : List EntryView) → FollowFrom 1 history → AllByRecursion (λ e. s < e.number) (drop s history)
above_dropped s history follow =
    let first : 1 + s ≡ suc s = omega arith in
    numbers_above s (drop s history) (rw first at (follow_drop s 1 history follow))

among_back : (id : List ℕ) (front back : List EntryView) → is_among id (map id_of_entry back) ≡ true → is_among id (map id_of_entry (front ++ back)) ≡ true
among_back id front back known =
    ap (is_among id) (map-append id_of_entry front back)
    ∙ list_any-append (λ other. bytes_eq id other) (map id_of_entry front) (map id_of_entry back)
    ∙ or_right (is_among id (map id_of_entry front)) (is_among id (map id_of_entry back)) known

abbrev pub IsIn : ℕ → List EntryView → EntryView → Type 0
IsIn n log e = e.number ≤ n → is_among (id_of e.number) (map id_of_entry log) ≡ true

pub kept_in : (keep high : ℕ) (history : List EntryView) (turns : List Turn) → 1 ≤ keep → AreRising 0 high turns → high ≤ length history → FollowFrom 1 history →
    AllByRecursion (IsIn (ends_at keep 0 turns) (run_by keep history 0 turns)) (drop (high - keep) history)
kept_in keep high history turns some rise long follow =
    let p = high - keep in
    let n = ends_at keep 0 turns in
    let log = run_by keep history 0 turns in
    elim (cases_lt n p) [
      | inl below ↦ AllByRecursion-weaker (λ e. p < e.number) (IsIn n log) (λ e above low. absurd (omega arith)) (drop p history) (above_dropped p history follow)
      | inr within ↦
          let end = ends_by keep high p history turns some rise long follow (omega arith) within in
          let position : p + (n - p) ≡ n = omega arith in
          let parts : span p n history ++ drop n history ≡ drop p history =
          ap (λ es. span p n history ++ es) (ap (λ k. drop k history) (sym position) ∙ sym (drop-drop (n - p) p history)) ∙ take-append-drop (n - p) (drop p history) in
          let first : AllByRecursion (IsIn n log) (span p n history) =
          AllByRecursion-weaker (λ e. is_among (id_of e.number) (map id_of_entry (span p n history)) ≡ true) (IsIn n log)
          (λ e among low. ap (λ es. is_among (id_of e.number) (map id_of_entry es)) end.joined ∙ among_back (id_of e.number) end.front (span p n history) among) (span p n history)
          (all_unmap (λ id. is_among id (map id_of_entry (span p n history)) ≡ true) id_of_entry (span p n history) (each_among (map id_of_entry (span p n history)))) in
          let second : AllByRecursion (IsIn n log) (drop n history) =
          AllByRecursion-weaker (λ e. n < e.number) (IsIn n log) (λ e above low. absurd (omega arith)) (drop n history) (above_dropped n history follow) in
          rw parts at (all_append (IsIn n log) (span p n history) (drop n history) first second)
    ]

-- Numbers rise, so that ids differ.

after_all : (before : EntryView) (es : List EntryView) (lines : List LoggedLine) → AreRunsAfter before es lines → AllByRecursion (λ e. before.number < e.number) es
after_all before [] lines runs = tt
after_all before (e ∷ es) [] runs = absurd runs
after_all before (e ∷ es) (l ∷ lines) runs =
    (runs.0, AllByRecursion-weaker (λ f. e.number < f.number) (λ f. before.number < f.number) (λ f above. omega (arith, runs.0)) es (after_all e es lines runs.2))

after_pairs : (before : EntryView) (es : List EntryView) (lines : List LoggedLine) → AreRunsAfter before es lines → EachPair (λ a b. a.number < b.number) es
after_pairs before [] lines runs = tt
after_pairs before (e ∷ es) [] runs = absurd runs
after_pairs before (e ∷ es) (l ∷ lines) runs = (after_all e es lines runs.2, after_pairs e es lines runs.2)

runs_pairs : (es : List EntryView) (lines : List LoggedLine) → AreRuns es lines → EachPair (λ a b. a.number < b.number) es
runs_pairs [] lines runs = tt
runs_pairs (e ∷ es) [] runs = absurd runs
runs_pairs (e ∷ es) (l ∷ lines) runs = (after_all e es lines runs.1, after_pairs e es lines runs.1)

all_both : {A : Type 0} (P Q R : A → Type 0) → ((x : A) → P x → Q x → R x) → (xs : List A) → AllByRecursion P xs → AllByRecursion Q xs → AllByRecursion R xs
all_both P Q R each [] first second = tt
all_both P Q R each (x ∷ xs) first second = (each x first.0 second.0, all_both P Q R each xs first.1 second.1)

pairs_known : {A : Type 0} (P : A → Type 0) (R S : A → A → Type 0) → ((x y : A) → P x → P y → R x y → S x y) → (xs : List A) → AllByRecursion P xs → EachPair R xs → EachPair S xs
pairs_known P R S each [] all pairs = tt
pairs_known P R S each (x ∷ xs) all pairs =
    (all_both P (R x) (S x) (λ y known related. each x y all.0 known related) xs all.1 pairs.0, pairs_known P R S each xs all.1 pairs.1)

pub pairs_unmap : {A B : Type 0} (R : B → B → Type 0) (f : A → B) (xs : List A) → EachPair R (map f xs) → EachPair (λ x y. R (f x) (f y)) xs
pairs_unmap R f [] pairs = tt
pairs_unmap R f (x ∷ xs) pairs = (all_unmap (R (f x)) f xs pairs.0, pairs_unmap R f xs pairs.1)

pub ids_differ : (many : ℕ) (es : List EntryView) (lines : List LoggedLine) → many < 2 ^ 64 → AllByRecursion (λ e. e.number ≤ many) es → AreRuns es lines →
    EachPair (λ a b. id_of a.number ≢ id_of b.number) es
ids_differ many es lines few within runs =
    pairs_known (λ e. e.number ≤ many) (λ a b. a.number < b.number) (λ a b. id_of a.number ≢ id_of b.number)
    (λ a b low high below same. let equal : a.number ≡ b.number = id_of_same a.number b.number (omega arith) (omega arith) same in omega arith) es within (runs_pairs es lines runs)
