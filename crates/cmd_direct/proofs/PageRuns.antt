-- The direct run, step by step: the pages of a device are those of turns at its account's archive.
use Rattle.std.proofs.Common.{◌≡◌, ℕ, ◌+◌, ◌-◌, ◌<◌, ◌≤◌, min, max, true, false, cond, List, [], ◌∷◌, ◌++◌, length, take, map, refl, sym, ap, subst, ◌∙◌, arith, inl, inr}
use Rattle.std.proofs.lemmas.Bool.{cases_Bool}
use Rattle.std.proofs.lemmas.List.{append_assoc, append-nil, length-append, map-append, take_at as front_of_join}
use Rattle.std.proofs.lemmas.List.Elements.{filter-append}
use Rattle.std.proofs.lemmas.List.Sums.{sum_by-append, sum_by-cons}
use Rattle.std.proofs.lemmas.Slice.Eq.{bytes_eq-Decides}
use Rattle.std.specs.List.{AllByRecursion, count_by, filter}
use Rattle.std.specs.Str.{bytes_eq}
use Rattle.mam_archive.proofs.NumberedEntries.{FollowFrom, follow_all}
use Rattle.mam_archive.specs.Entries.{EntryView, newest, numbered}
use Rattle.cmd_direct.proofs.CatchUps.{CaughtUp, catch_up_is}
use Rattle.cmd_direct.proofs.Prefixes.{takes_few}
use Rattle.cmd_direct.proofs.TurnTiles.{Split, length-pages_by, split_at}
use Rattle.cmd_direct.proofs.Turns.{AreRising, Turn, ends_at, ends_bounds, last_id_by, length_kept, pages_by, pages_by-append, rising_append, rising_to}
use Rattle.cmd_direct.specs.Direct.{catch_up, kept_after, pages_after, pages_from, pages_of, take_at, takes_of}
use Rattle.base_io.specs.Names.{is_among}
use Rattle.mam_log.specs.LogPages.{LogPage}
use Rattle.mam_pages.specs.Kept.{kept_by}
use Rattle.cmd_report.proofs.TakenArchives.{archive_few as taken_few, archive_numbered}
use Rattle.cmd_report.specs.Addresses.{bare_address}
use Rattle.cmd_report.specs.Takes.{archive_of, concerns, entry_of, numbered_from}
use Rattle.cmd_schedule.proofs.Prefixes.{along-append}
use Rattle.cmd_schedule.proofs.StandingSteps.{AreStanding, Stands, home_kept, standing_front, standing_rest}
use Rattle.cmd_schedule.specs.Contents.{along, devices_of, home_of, is_catchup_of}
use Rattle.cmd_schedule.specs.declared.schedule.Step.{Step}
use Rattle.cmd_schedule.specs.declared.schedule.Step.TheVariants.{Catchup}

-- what an account's archive would hold after the first steps if nothing were purged
abbrev pub archive_after : List Step → List ℕ → List Step → List EntryView
archive_after all account before = archive_of account (takes_of all before)

-- the history of a device's account
abbrev pub history_at : List Step → List ℕ → List EntryView
history_at all device = archive_after all (home_of all device) all

-- the last number that it had given after the first steps
abbrev pub last_at : List Step → List ℕ → List Step → ℕ
last_at all device before = length (archive_after all (home_of all device) before)

pub numbered_more : (n : ℕ) (xs ys : List EntryView) → (more : List EntryView) × (numbered_from n (xs ++ ys) ≡ numbered_from n xs ++ more)
numbered_more n [] ys = (numbered_from n ys, refl)
numbered_more n (x ∷ xs) ys =
    let rest = numbered_more (n + 1) xs ys in
    (rest.0, ap (λ entries. numbered n x ∷ entries) rest.1)

-- later steps leave what there is at the front
pub archive_grows : (all : List Step) (account : List ℕ) (before rest : List Step) →
    (more : List EntryView) × (archive_after all account (before ++ rest) ≡ archive_after all account before ++ more)
archive_grows all account before rest =
    let later = along (take_at all) before rest in
    let takes : takes_of all (before ++ rest) ≡ takes_of all before ++ later = along-append (take_at all) [] before rest in
    let kept : filter (concerns account) (takes_of all (before ++ rest)) ≡ filter (concerns account) (takes_of all before) ++ filter (concerns account) later =
    ap (filter (concerns account)) takes ∙ filter-append (concerns account) (takes_of all before) later in
    let entries : map entry_of (filter (concerns account) (takes_of all (before ++ rest))) ≡ map entry_of (filter (concerns account) (takes_of all before)) ++ map entry_of (filter (concerns account) later) =
    ap (map entry_of) kept ∙ map-append entry_of (filter (concerns account) (takes_of all before)) (filter (concerns account) later) in
    let more = numbered_more 1 (map entry_of (filter (concerns account) (takes_of all before))) (map entry_of (filter (concerns account) later)) in
    (more.0, ap (numbered_from 1) entries ∙ more.1)

pub last_grows : (all : List Step) (device : List ℕ) (before rest : List Step) → last_at all device before ≤ last_at all device (before ++ rest)
last_grows all device before rest =
    let account = home_of all device in
    let grows = archive_grows all account before rest in
    omega (arith, ap length grows.1, length-append (archive_after all account before) grows.0)

-- the archive after the first steps is a front of the history
pub record IsFront (all : List Step) (device : List ℕ) (before : List Step) : Type 0 where
  pub within : last_at all device before ≤ length (history_at all device)
  pub same : archive_after all (home_of all device) before ≡ take (last_at all device before) (history_at all device)

pub front_at : (all : List Step) (device : List ℕ) (before rest : List Step) → before ++ rest ≡ all → IsFront all device before
front_at all device before rest whole =
    let account = home_of all device in
    let archive = archive_after all account before in
    let grows = archive_grows all account before rest in
    let joined : history_at all device ≡ archive ++ grows.0 = ap (archive_after all account) (sym whole) ∙ grows.1 in
    let size : length (history_at all device) ≡ length archive + length grows.0 = ap length joined ∙ length-append archive grows.0 in
    record {
      within = omega arith;
      same = sym (front_of_join archive grows.0 (length archive) refl) ∙ ap (take (length archive)) (sym joined);
    }

pub history_follows : (all : List Step) (device : List ℕ) → FollowFrom 1 (history_at all device)
history_follows all device = follow_all (history_at all device) (archive_numbered (home_of all device) (takes_of all all))

pub history_few : (all : List Step) (device : List ℕ) → length all ≤ 100000 → length (history_at all device) ≤ 100000
history_few all device few = omega (arith, taken_few (home_of all device) (takes_of all all), takes_few all all)

abbrev pub completed : List LogPage → ℕ
completed pages = count_by (λ page. page.complete) pages

-- the pages of turns at the history
abbrev pub pages_at : ℕ → List Step → List ℕ → List Turn → List LogPage
pages_at keep all device turns = pages_by keep (history_at all device) 0 turns

-- One step.

pub record IsStepOf (keep : ℕ) (all : List Step) (device : List ℕ) (before : List Step) (step : Step) (turns : List Turn) : Type 0 where
  pub more : List Turn
  pub joined : pages_after keep all device before (pages_at keep all device turns) step ≡ pages_at keep all device (turns ++ more)
  pub rise : AreRising 0 (last_at all device before) (turns ++ more)
  pub lasts : AllByRecursion (λ turn. turn.last ≡ last_at all device before) more
  pub count : completed (pages_at keep all device (turns ++ more)) ≡ completed (pages_at keep all device turns) + cond (is_catchup_of device step) 1 0

quiet_step : (keep : ℕ) (all : List Step) (device : List ℕ) (before : List Step) (step : Step) (turns : List Turn) →
    pages_after keep all device before (pages_at keep all device turns) step ≡ pages_at keep all device turns → is_catchup_of device step ≡ false →
    AreRising 0 (last_at all device before) turns → IsStepOf keep all device before step turns
quiet_step keep all device before step turns same none rise =
    let still : turns ++ [] ≡ turns = append-nil turns in
    let nothing : cond (is_catchup_of device step) 1 0 ≡ 0 = rw none refl in
    let count : completed (pages_at keep all device (turns ++ [])) ≡ completed (pages_at keep all device turns) = ap (λ ts. completed (pages_at keep all device ts)) still in
    record {
      more = [];
      joined = same ∙ ap (pages_at keep all device) (sym still);
      rise = subst (λ ts. AreRising 0 (last_at all device before) ts) (sym still) rise;
      lasts = tt;
      count = count ∙ plus_nothing nothing;
    }
  where
    plus_nothing : {a b : ℕ} → b ≡ 0 → a ≡ a + b
    plus_nothing nothing = omega arith

-- the catch-up of a device at its account's archive
caught_up : (keep : ℕ) (all : List Step) (device : List ℕ) (before rest : List Step) (most : ℕ) (turns : List Turn) → before ++ rest ≡ all → length all ≤ 100000 →
    1 ≤ keep → 1 ≤ most → most ≤ 100 → AreRising 0 (last_at all device before) turns →
    CaughtUp keep (history_at all device) (last_at all device before) (ends_at keep 0 turns) (pages_at keep all device turns)
    (catch_up (length (newest keep (archive_after all (home_of all device) before)) + 1) most (kept_after keep (home_of all device) (takes_of all before)) (pages_at keep all device turns))
caught_up keep all device before rest most turns whole few some asked limit rise =
    let history = history_at all device in
    let last = last_at all device before in
    let pages = pages_at keep all device turns in
    let n = ends_at keep 0 turns in
    let owner = bare_address (home_of all device) in
    let front = front_at all device before rest whole in
    let long : last ≤ length history = front.within in
    let small : last ≤ 4294967295 = omega (arith, history_few all device few) in
    let bounds = ends_bounds keep 0 0 last turns some (omega arith) rise in
    let following = last_id_by keep last history turns some rise long (history_follows all device) in
    let enough : last - max n (last - keep) < length (newest keep (take last history)) + 1 = enough_turns (length (newest keep (take last history))) n last keep (length_kept keep last history long) in
    subst (λ es. CaughtUp keep history last n pages (catch_up (length (newest keep es) + 1) most (kept_by owner (newest keep es)) pages)) (sym front.same)
    (catch_up_is (length (newest keep (take last history)) + 1) most keep n last owner history pages asked limit some bounds.1 long small (history_follows all device) following enough)
  where
    enough_turns : (size n last keep : ℕ) → size ≡ min last keep → last - max n (last - keep) < size + 1
    enough_turns size n last keep is = omega arith

catchup_step : (keep : ℕ) (all : List Step) (device : List ℕ) (before : List Step) (step : Step) (turns : List Turn) (result : List LogPage) →
    pages_after keep all device before (pages_at keep all device turns) step ≡ result → is_catchup_of device step ≡ true → AreRising 0 (last_at all device before) turns →
    CaughtUp keep (history_at all device) (last_at all device before) (ends_at keep 0 turns) (pages_at keep all device turns) result →
    IsStepOf keep all device before step turns
catchup_step keep all device before step turns result is one rise caught =
    let last = last_at all device before in
    let pages = pages_at keep all device turns in
    let later = pages_by keep (history_at all device) (ends_at keep 0 turns) caught.more in
    let joined : pages_at keep all device (turns ++ caught.more) ≡ pages ++ later = pages_by-append keep 0 (history_at all device) turns caught.more in
    let single : cond (is_catchup_of device step) 1 0 ≡ 1 = rw one refl in
    record {
      more = caught.more;
      joined = is ∙ caught.joined ∙ sym joined;
      rise = rising_append 0 last last turns caught.more rise caught.rise;
      lasts = caught.lasts;
      count = ap completed joined ∙ sum_by-append (λ (page : LogPage). cond page.complete 1 0) pages later ∙ ap (λ k. completed pages + k) (caught.one ∙ sym single);
    }

pub step_is : (keep : ℕ) (all : List Step) (device : List ℕ) (before rest : List Step) (step : Step) (turns : List Turn) → before ++ step ∷ rest ≡ all → Stands before step →
    length all ≤ 100000 → 1 ≤ keep → AreRising 0 (last_at all device before) turns → IsStepOf keep all device before step turns
step_is keep all device before rest (Catchup name most) turns whole stands few some rise =
    elim (cases_Bool (bytes_eq device name)) [
      | inl same ↦
          let among : is_among device (devices_of before) ≡ true = rw ((bytes_eq-Decides device name).0 same) stands.0 in
          let home : home_of before device ≡ home_of all device = sym (rw whole at (home_kept device before (Catchup name most ∷ rest) among)) in
          catchup_step keep all device before (Catchup name most) turns
          (catch_up (length (newest keep (archive_after all (home_of all device) before)) + 1) most (kept_after keep (home_of all device) (takes_of all before)) (pages_at keep all device turns))
          (rw (same, home) refl) same rise
          (caught_up keep all device before (Catchup name most ∷ rest) most turns whole few some stands.1 stands.2 rise)
      | inr other ↦ quiet_step keep all device before (Catchup name most) turns (rw other refl) other rise
    ]
step_is keep all device before rest step turns whole stands few some rise = quiet_step keep all device before step turns refl refl rise

-- Steps.

pub record IsRunOf (keep : ℕ) (all : List Step) (device : List ℕ) (before steps : List Step) (turns : List Turn) : Type 0 where
  pub more : List Turn
  pub joined : pages_from keep all device before (pages_at keep all device turns) steps ≡ pages_at keep all device (turns ++ more)
  pub rise : AreRising 0 (last_at all device (before ++ steps)) (turns ++ more)
  pub count : completed (pages_at keep all device (turns ++ more)) ≡ completed (pages_at keep all device turns) + count_by (is_catchup_of device) steps

no_step : (keep : ℕ) (all : List Step) (device : List ℕ) (before : List Step) (turns : List Turn) → AreRising 0 (last_at all device before) turns → IsRunOf keep all device before [] turns
no_step keep all device before turns rise =
    let still : turns ++ [] ≡ turns = append-nil turns in
    let there : before ++ [] ≡ before = append-nil before in
    let up : AreRising 0 (last_at all device (before ++ [])) turns = subst (λ b. AreRising 0 (last_at all device b) turns) (sym there) rise in
    record {
      more = [];
      joined = ap (pages_at keep all device) (sym still);
      rise = subst (λ ts. AreRising 0 (last_at all device (before ++ [])) ts) (sym still) up;
      count = ap (λ ts. completed (pages_at keep all device ts)) still ∙ plus_none;
    }
  where
    plus_none : {a : ℕ} → a ≡ a + 0
    plus_none = omega arith

pub run_is : (keep : ℕ) (all : List Step) (device : List ℕ) (before steps later : List Step) (turns : List Turn) → before ++ (steps ++ later) ≡ all → AreStanding before steps →
    length all ≤ 100000 → 1 ≤ keep → AreRising 0 (last_at all device before) turns → IsRunOf keep all device before steps turns
run_is keep all device before [] later turns whole stand few some rise = no_step keep all device before turns rise
run_is keep all device before (step ∷ steps) later turns whole stand few some rise =
    let first = step_is keep all device before (steps ++ later) step turns whole stand.0 few some rise in
    let up = rising_to 0 (last_at all device before) (last_at all device (before ++ step ∷ [])) (turns ++ first.more) (last_grows all device before (step ∷ [])) first.rise in
    let rest = run_is keep all device (before ++ step ∷ []) steps later (turns ++ first.more) (append_assoc before (step ∷ []) (steps ++ later) ∙ whole) stand.1 few some up in
    let all_turns : (turns ++ first.more) ++ rest.more ≡ turns ++ (first.more ++ rest.more) = append_assoc turns first.more rest.more in
    let steps_joined : (before ++ step ∷ []) ++ steps ≡ before ++ step ∷ steps = append_assoc before (step ∷ []) steps in
    let counts : count_by (is_catchup_of device) (step ∷ steps) ≡ cond (is_catchup_of device step) 1 0 + count_by (is_catchup_of device) steps =
    sum_by-cons (λ one. cond (is_catchup_of device one) 1 0) step steps in
    record {
      more = first.more ++ rest.more;
      joined = ap (λ pages. pages_from keep all device (before ++ step ∷ []) pages steps) first.joined ∙ rest.joined ∙ ap (pages_at keep all device) all_turns;
      rise = subst (λ ts. AreRising 0 (last_at all device (before ++ step ∷ steps)) ts) all_turns
          (subst (λ b. AreRising 0 (last_at all device b) ((turns ++ first.more) ++ rest.more)) steps_joined rest.rise);
      count = ap (λ ts. completed (pages_at keep all device ts)) (sym all_turns)
          ∙ summed (completed (pages_at keep all device turns)) (cond (is_catchup_of device step) 1 0) (count_by (is_catchup_of device) steps) rest.count first.count counts;
    }
  where
    summed : (first one more : ℕ) {total mid steps : ℕ} → total ≡ mid + more → mid ≡ first + one → steps ≡ one + more → total ≡ first + steps
    summed first one more whole part counts = omega arith

-- the device's pages after the first steps of a schedule
pub record ArePaged (keep : ℕ) (all : List Step) (device : List ℕ) (before : List Step) : Type 0 where
  pub turns : List Turn
  pub are : pages_of keep all device before ≡ pages_at keep all device turns
  pub rise : AreRising 0 (last_at all device before) turns
  pub count : completed (pages_at keep all device turns) ≡ count_by (is_catchup_of device) before

pub paged_at : (keep : ℕ) (all : List Step) (device : List ℕ) (before later : List Step) → before ++ later ≡ all → AreStanding [] all → length all ≤ 100000 → 1 ≤ keep →
    ArePaged keep all device before
paged_at keep all device before later whole stand few some =
    let standing : AreStanding [] before = standing_front [] before later (subst (λ steps. AreStanding [] steps) (sym whole) stand) in
    let run = run_is keep all device [] before later [] whole standing few some (omega arith) in
    record { turns = run.more; are = run.joined; rise = run.rise; count = run.count ∙ none_before }
  where
    none_before : {a : ℕ} → 0 + a ≡ a
    none_before = omega arith

pub pages_from-append : (keep : ℕ) (all : List Step) (device : List ℕ) (before xs ys : List Step) (pages : List LogPage) →
    pages_from keep all device before pages (xs ++ ys) ≡ pages_from keep all device (before ++ xs) (pages_from keep all device before pages xs) ys
pages_from-append keep all device before [] ys pages = ap (λ b. pages_from keep all device b pages ys) (sym (append-nil before))
pages_from-append keep all device before (x ∷ xs) ys pages =
    pages_from-append keep all device (before ++ x ∷ []) xs ys (pages_after keep all device before pages x)
    ∙ ap (λ b. pages_from keep all device b (pages_from keep all device (before ++ x ∷ []) (pages_after keep all device before pages x) xs) ys) (append_assoc before (x ∷ []) xs)

-- A page and its turn.

pub record IsTurnOf (keep : ℕ) (all : List Step) (device : List ℕ) (k : ℕ) : Type 0 where
  pub front : List Turn
  pub turn : Turn
  pub rest : List Turn
  pub are : pages_of keep all device all ≡ pages_at keep all device (front ++ turn ∷ rest)
  pub rise : AreRising 0 (length (history_at all device)) (front ++ turn ∷ rest)
  pub many : length front ≡ k

turn_in : (keep : ℕ) (all : List Step) (device : List ℕ) (k : ℕ) (known : ArePaged keep all device all) → k < length (pages_of keep all device all) → IsTurnOf keep all device k
turn_in keep all device k known within =
    let size : length (pages_of keep all device all) ≡ length known.turns = ap length known.are ∙ length-pages_by keep 0 (history_at all device) known.turns in
    let split = split_at known.turns k (omega arith) in
    record {
      front = split.front;
      turn = split.item;
      rest = split.rest;
      are = known.are ∙ ap (pages_at keep all device) split.joined;
      rise = subst (λ ts. AreRising 0 (length (history_at all device)) ts) split.joined known.rise;
      many = split.many;
    }

-- each page has one
pub turn_of : (keep : ℕ) (all : List Step) (device : List ℕ) (k : ℕ) → AreStanding [] all → length all ≤ 100000 → 1 ≤ keep →
    k < length (pages_of keep all device all) → IsTurnOf keep all device k
turn_of keep all device k stand few some within = turn_in keep all device k (paged_at keep all device all [] (append-nil all) stand few some) within

all_item : {A : Type 0} (P : A → Type 0) (xs ys : List A) (y : A) → AllByRecursion P (xs ++ y ∷ ys) → P y
all_item P [] ys y all = all.0
all_item P (x ∷ xs) ys y all = all_item P xs ys y all.1

-- the turn of a page that a step brought, at the archive of that moment
pub record IsPageOf (keep : ℕ) (all : List Step) (device : List ℕ) (before : List Step) (k : ℕ) : Type 0 where
  pub turn_of : IsTurnOf keep all device k
  pub last : turn_of.turn.last ≡ last_at all device before

placed : (keep : ℕ) (all : List Step) (device : List ℕ) (before : List Step) (k : ℕ) (turns more later : List Turn) → length turns ≤ k → Split more (k - length turns) →
    pages_of keep all device all ≡ pages_at keep all device ((turns ++ more) ++ later) → AreRising 0 (length (history_at all device)) ((turns ++ more) ++ later) →
    AllByRecursion (λ turn. turn.last ≡ last_at all device before) more → IsPageOf keep all device before k
placed keep all device before k turns more later low split are rise lasts =
    let position : (turns ++ more) ++ later ≡ (turns ++ split.front) ++ split.item ∷ (split.rest ++ later) =
    ap (λ ts. (turns ++ ts) ++ later) split.joined
    ∙ append_assoc turns (split.front ++ split.item ∷ split.rest) later
    ∙ ap (λ ts. turns ++ ts) (append_assoc split.front (split.item ∷ split.rest) later)
    ∙ sym (append_assoc turns split.front (split.item ∷ (split.rest ++ later))) in
    record {
      turn_of = record {
        front = turns ++ split.front;
        turn = split.item;
        rest = split.rest ++ later;
        are = are ∙ ap (pages_at keep all device) position;
        rise = subst (λ ts. AreRising 0 (length (history_at all device)) ts) position rise;
        many = omega (arith, length-append turns split.front, split.many);
      };
      last = all_item (λ turn. turn.last ≡ last_at all device before) split.front split.rest split.item
          (subst (λ ts. AllByRecursion (λ turn. turn.last ≡ last_at all device before) ts) split.joined lasts);
    }

step_placed : (keep : ℕ) (all : List Step) (device : List ℕ) (before rest : List Step) (step : Step) (k : ℕ) (known : ArePaged keep all device before)
    (one : IsStepOf keep all device before step known.turns) (later : IsRunOf keep all device (before ++ step ∷ []) rest (known.turns ++ one.more)) →
    (before ++ step ∷ []) ++ rest ≡ all → length (pages_of keep all device before) ≤ k → k < length (pages_of keep all device (before ++ step ∷ [])) →
    IsPageOf keep all device before k
step_placed keep all device before rest step k known one later joined low high =
    let history = history_at all device in
    let turns = known.turns in
    let after : pages_of keep all device (before ++ step ∷ []) ≡ pages_at keep all device (turns ++ one.more) =
    pages_from-append keep all device [] before (step ∷ []) [] ∙ ap (λ pages. pages_after keep all device before pages step) known.are ∙ one.joined in
    let end : pages_of keep all device all ≡ pages_at keep all device ((turns ++ one.more) ++ later.more) =
    ap (pages_of keep all device) (sym joined) ∙ pages_from-append keep all device [] (before ++ step ∷ []) rest []
    ∙ ap (λ pages. pages_from keep all device (before ++ step ∷ []) pages rest) after ∙ later.joined in
    let rise : AreRising 0 (length history) ((turns ++ one.more) ++ later.more) = subst (λ b. AreRising 0 (last_at all device b) ((turns ++ one.more) ++ later.more)) joined later.rise in
    let first : length (pages_of keep all device before) ≡ length turns = ap length known.are ∙ length-pages_by keep 0 history turns in
    let second : length (pages_of keep all device (before ++ step ∷ [])) ≡ length turns + length one.more =
    ap length after ∙ length-pages_by keep 0 history (turns ++ one.more) ∙ length-append turns one.more in
    placed keep all device before k turns one.more later.more (omega arith) (split_at one.more (k - length turns) (omega arith)) end rise one.lasts

step_known : (keep : ℕ) (all : List Step) (device : List ℕ) (before rest : List Step) (step : Step) (k : ℕ) (known : ArePaged keep all device before)
    (one : IsStepOf keep all device before step known.turns) → (before ++ step ∷ []) ++ rest ≡ all → AreStanding (before ++ step ∷ []) rest → length all ≤ 100000 → 1 ≤ keep →
    length (pages_of keep all device before) ≤ k → k < length (pages_of keep all device (before ++ step ∷ [])) → IsPageOf keep all device before k
step_known keep all device before rest step k known one joined standing few some low high =
    let up = rising_to 0 (last_at all device before) (last_at all device (before ++ step ∷ [])) (known.turns ++ one.more) (last_grows all device before (step ∷ [])) one.rise in
    step_placed keep all device before rest step k known one
    (run_is keep all device (before ++ step ∷ []) rest [] (known.turns ++ one.more) (ap (λ steps. (before ++ step ∷ []) ++ steps) (append-nil rest) ∙ joined) standing few some up)
    joined low high

pages_known : (keep : ℕ) (all : List Step) (device : List ℕ) (before rest : List Step) (step : Step) (k : ℕ) (known : ArePaged keep all device before) →
    before ++ step ∷ rest ≡ all → AreStanding before (step ∷ rest) → length all ≤ 100000 → 1 ≤ keep →
    length (pages_of keep all device before) ≤ k → k < length (pages_of keep all device (before ++ step ∷ [])) → IsPageOf keep all device before k
pages_known keep all device before rest step k known whole standing few some low high =
    step_known keep all device before rest step k known (step_is keep all device before rest step known.turns whole standing.0 few some known.rise)
    (append_assoc before (step ∷ []) rest ∙ whole) standing.1 few some low high

-- each page that a step brought has one
pub page_of_step : (keep : ℕ) (all : List Step) (device : List ℕ) (before rest : List Step) (step : Step) (k : ℕ) → before ++ step ∷ rest ≡ all → AreStanding [] all →
    length all ≤ 100000 → 1 ≤ keep → length (pages_of keep all device before) ≤ k → k < length (pages_of keep all device (before ++ step ∷ [])) →
    IsPageOf keep all device before k
page_of_step keep all device before rest step k whole stand few some low high =
    let standing : AreStanding before (step ∷ rest) = standing_rest [] before (step ∷ rest) (subst (λ steps. AreStanding [] steps) (sym whole) stand) in
    pages_known keep all device before rest step k (paged_at keep all device before (step ∷ rest) whole stand few some) whole standing few some low high
