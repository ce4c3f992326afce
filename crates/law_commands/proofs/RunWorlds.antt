-- The report of a run of a wire schedule is of the last of its worlds.
use Rattle.std.proofs.Common.{◌≡◌, ◌≢◌, ℕ, ◌+◌, ◌≤◌, true, false, List, [], ◌∷◌, ◌++◌, Option, Some, None, length, take, map, refl, sym, ap, ◌∙◌, subst, arith}
use Rattle.std.proofs.lemmas.Bool.{true≢false}
use Rattle.std.specs.List.{AllByRecursion, flat_map, slice_get}
use Rattle.base_io.specs.Names.{is_among}
use Rattle.base_lemmas.proofs.Lists.{AllByRecursion-weaker}
use Rattle.mam_archive.specs.Entries.{newest}
use Rattle.cmd_direct.proofs.TurnRuns.{all_positions}
use Rattle.cmd_report.specs.LawfulRuns.{tells_moments}
use Rattle.cmd_report.specs.Reports.{AccountView, DeviceView, ReportView}
use Rattle.cmd_report.specs.Takes.{archive_of}
use Rattle.cmd_report.specs.Worlds.{ReportWorld}
use Rattle.cmd_report.specs.declared.report.SaidLine.{SaidLine}
use Rattle.cmd_report.specs.declared.report.SaidMark.TheVariants.{Undecided, Waiting}
use Rattle.cmd_schedule.proofs.Lists.{all_map, each_among}
use Rattle.cmd_schedule.specs.Contents.{Owned, accounts_of}
use Rattle.cmd_schedule.specs.Schedules.{WireView, keep_of, seen_of}
use Rattle.cmd_schedule.specs.declared.schedule.Version.{Version}
use Rattle.cmd_schedule.specs.declared.schedule.Version.TheVariants.{One, Two}
use Rattle.sim_1_applications.proofs.Later.{IsLater, later_along}
use Rattle.sim_1_applications.proofs.LawsKept.{ground_of, home_at, tiles_many}
use Rattle.sim_1_applications.proofs.Moments.{passed_at, reaches_is, was_device}
use Rattle.sim_1_applications.proofs.Owners.{LineAt}
use Rattle.sim_1_applications.proofs.Runs.{taken_beginning}
use Rattle.sim_1_applications.proofs.Shown.{after_both, shown_at}
use Rattle.sim_1_applications.proofs.TakenLaws.{each_device}
use Rattle.sim_1_applications.proofs.TileRuns.{read_beginning}
use Rattle.sim_1_applications.proofs.Rendered.{history_few}
use Rattle.sim_1_applications.specs.Devices as sessions
use Rattle.sim_1_applications.specs.Devices.{OpenPage, Reading, new_device}
use Rattle.sim_1_applications.specs.Events.{AppEvent, Reaches}
use Rattle.sim_1_applications.specs.Histories.{asked_of, asked_with, state_after, states_of}
use Rattle.sim_1_applications.specs.Reported.{AreRepresented, IsShown, account_line, history_at, take_of, underway_of}
use Rattle.sim_1_applications.specs.Runs.{IsRunOf, begins, moves_of, owned_of, steps_in}
use Rattle.law_commands.proofs.HistoriesGrow.{Extends, archive_grows, front_few, front_is, fronts_of, newest_none}
use Rattle.law_commands.proofs.Marks.{one_kind, waits_now}
use Rattle.law_commands.specs.OfWorlds.{AreAskedFirst, AreFronts, AreKeptOf, AreMarksRight, ArePagesAsked, IsArchiveOf, IsFirst, IsLast, IsOfWorlds}

-- ---- what a device asked for

asked_low : (b : Reading) (page : Option OpenPage) → length b.tiles ≤ asked_with b page
asked_low b None = omega arith
asked_low b (Some page) = omega arith

asked_high : (b : Reading) (page : Option OpenPage) → asked_with b page ≤ length b.tiles + 1
asked_high b None = omega arith
asked_high b (Some page) = omega arith

asked_sum : (b : Reading) (page : Option OpenPage) → asked_with b page ≡ length b.tiles + length (underway_of page)
asked_sum b None = omega arith
asked_sum b (Some page) = refl

few_underway : (page : Option OpenPage) → length (underway_of page) ≤ 1
few_underway None = omega arith
few_underway (Some page) = omega arith

-- ---- lists

mapped : {A B : Type 0} (f : A → B) (xs ys : List A) → map f (xs ++ ys) ≡ map f xs ++ map f ys
mapped f [] ys = refl
mapped f (x ∷ xs) ys = ap (λ rest. f x ∷ rest) (mapped f xs ys)

-- in version 1 an archive keeps as many entries as it can number
unpurged : (version : Version) (n : ℕ) → tells_moments version ≡ false → n ≤ 4294967295 → n ≤ keep_of version
unpurged One n none few = few
unpurged (Two keep) n none few = absurd (true≢false none)

-- ---- states and what the worlds show of them

module _ (owned : List Owned) where
  first_shown : (P : ReportWorld → Type 0) (moves : List (List AppEvent)) (w : sessions.AppWorld) (worlds : List ReportWorld) → AreRepresented owned (states_of w moves) worlds → ((shown : ReportWorld) → IsShown owned w shown → P shown) → IsFirst P worlds
  first_shown P [] w [] are each = absurd are
  first_shown P [] w (x ∷ worlds) are each = each x are.0
  first_shown P (move ∷ moves) w [] are each = absurd are
  first_shown P (move ∷ moves) w (x ∷ worlds) are each = each x are.0

  none_left : (w : sessions.AppWorld) (moves : List (List AppEvent)) → AreRepresented owned (states_of w moves) [] → ⊥
  none_left w [] is = is
  none_left w (m ∷ moves) is = is

  last_shown : (P : ReportWorld → Type 0) (moves : List (List AppEvent)) (w : sessions.AppWorld) (worlds : List ReportWorld) → AreRepresented owned (states_of w moves) worlds
      → ((shown : ReportWorld) → IsShown owned (state_after w (flat_map (λ move. move) moves)) shown → P shown) → IsLast P worlds
  last_shown P [] w [] are each = absurd are
  last_shown P [] w (x ∷ []) are each = each x are.0
  last_shown P [] w (x ∷ y ∷ worlds) are each = absurd are.1
  last_shown P (move ∷ moves) w [] are each = absurd are
  last_shown P (move ∷ moves) w (x ∷ []) are each = absurd (none_left (state_after w move) moves are.1)
  last_shown P (move ∷ moves) w (x ∷ y ∷ worlds) are each =
      last_shown P moves (state_after w move) (y ∷ worlds) are.1
      (λ shown is. each shown (subst (λ v. IsShown owned v shown) (sym (after_both move (flat_map (λ m. m) moves) w)) is))

  -- ---- archives

  grown : (v w : sessions.AppWorld) (name : List ℕ) → IsLater v w → Extends (history_at owned v.takes name) (history_at owned w.takes name)
  grown v w name later =
      let more = later.takes in
      let longer = archive_grows name (map (take_of owned) v.takes) (map (take_of owned) more.0) in
      (longer.0, ap (archive_of name) (ap (map (take_of owned)) more.1 ∙ mapped (take_of owned) v.takes more.0) ∙ longer.1)

  archive_front : (keep : ℕ) (v w : sessions.AppWorld) (name : List ℕ) (shown : ReportWorld) → IsLater v w → IsShown owned v shown → v.keep ≡ keep → is_among name v.accounts ≡ true
      → shown.archive name ≡ newest keep (take (length (history_at owned v.takes name)) (history_at owned w.takes name))
  archive_front keep v w name shown later is keeps exists =
      is.archive name exists ∙ (ap (λ k. newest k (history_at owned v.takes name)) keeps
      ∙ ap (newest keep) (sym (front_is (history_at owned v.takes name) (history_at owned w.takes name) (grown v w name later))))

  record Between (xs ys : List AppEvent) (w last : sessions.AppWorld) : Type 0 where
    mid : sessions.AppWorld
    first : Reaches xs w mid
    second : Reaches ys mid last

  split : (xs ys : List AppEvent) (w last : sessions.AppWorld) → Reaches (xs ++ ys) w last → Between xs ys w last
  split [] ys w last reaches = record { mid = w; first = refl; second = reaches }
  split (x ∷ xs) ys w last reaches =
      let rest = split xs ys reaches.0 last reaches.2 in
      record { mid = rest.mid; first = (reaches.0, reaches.1, rest.first); second = rest.second }

  kept_along : (keep : ℕ) (name : List ℕ) (moves : List (List AppEvent)) (w last : sessions.AppWorld) (worlds : List ReportWorld) (least : ℕ) → Reaches (flat_map (λ move. move) moves) w last
      → AreRepresented owned (states_of w moves) worlds → w.keep ≡ keep → is_among name w.accounts ≡ true → least ≤ length (history_at owned w.takes name)
      → AreKeptOf keep name (history_at owned last.takes name) least worlds
  kept_along keep name [] w last [] least reaches are keeps exists low = absurd are
  kept_along keep name [] w last (x ∷ []) least reaches are keeps exists low =
      let later = later_along [] w last reaches in (
        length (history_at owned w.takes name),
        low,
        archive_front keep w last name x later are.0 keeps exists,
        front_few (history_at owned w.takes name) (history_at owned last.takes name) (grown w last name later),
      )
  kept_along keep name [] w last (x ∷ y ∷ worlds) least reaches are keeps exists low = absurd are.1
  kept_along keep name (move ∷ moves) w last [] least reaches are keeps exists low = absurd are
  kept_along keep name (move ∷ moves) w last (x ∷ worlds) least reaches are keeps exists low =
      let later = later_along (flat_map (λ m. m) (move ∷ moves)) w last reaches in
      let parts = split move (flat_map (λ m. m) moves) w last reaches in
      let next = later_along move w parts.mid parts.first in (
        length (history_at owned w.takes name),
        low,
        archive_front keep w last name x later are.0 keeps exists,
        kept_along keep name moves parts.mid last worlds (length (history_at owned w.takes name)) parts.second
            (subst (λ v. AreRepresented owned (states_of v moves) worlds) (sym (reaches_is move w parts.mid parts.first)) are.1)
            (next.keep ∙ keeps) (ap (is_among name) next.accounts ∙ exists)
            (front_few (history_at owned w.takes name) (history_at owned parts.mid.takes name) (grown w parts.mid name next)),
      )

-- ---- a run

module _ (s : WireView) (worlds : List ReportWorld) (r : ReportView) (run : IsRunOf s worlds r) where
  abbrev At : ℕ → DeviceView → Type 0
  At i line = LineAt (keep_of s.version) (history_at (owned_of s) run.last.takes) (owned_of s) run.last.devices i line

  last_state : run.last ≡ state_after (begins s) (flat_map (λ (move : List AppEvent). move) (moves_of run.runs))
  last_state = reaches_is (flat_map (λ (move : List AppEvent). move) (moves_of run.runs)) (begins s) run.last run.reaches

  asked_first : (i : ℕ) (line : DeviceView) → At i line → (j : ℕ) (shown : ReportWorld) → slice_get worlds j ≡ Some shown → AreAskedFirst line shown
  asked_first i line at j shown found =
      let g = ground_of s worlds r run in
      let accounts = accounts_of (steps_in s) in
      let homes = map (λ (o : Owned). o.account) (owned_of s) in
      let v = shown_at (owned_of s) _ worlds j shown run.shown found in
      let passed = passed_at (moves_of run.runs) (begins s) run.last j v.state run.reaches (taken_beginning (keep_of s.version) accounts homes) (read_beginning (keep_of s.version) g.some accounts homes) v.at in
      let was = was_device v.state run.last i at.d passed g.read at.device in
      let pages : length (shown.pages line.name) ≡ length was.was.reading.tiles = ap (λ name. length (shown.pages name)) at.is.name ∙ v.is.pages i at.o was.was at.owner was.at in
      let asked : shown.asked line.name ≡ asked_of was.was.reading = ap shown.asked at.is.name ∙ v.is.asked i at.o was.was at.owner was.at in
      let low = asked_low was.was.reading was.was.reading.page in
      let high = asked_high was.was.reading was.was.reading.page in
      record { asked = omega (arith, pages, asked, low); one = omega (arith, pages, asked, high) }

  pages_asked : (i : ℕ) (line : DeviceView) → At i line → ArePagesAsked worlds line
  pages_asked i line at =
      let history = history_at (owned_of s) run.last.takes at.o.account in
      let tiles : length line.pages ≡ length at.d.reading.tiles = ap length at.is.pages ∙ tiles_many (keep_of s.version) history at.d.reading.tiles _ in
      let underway : length line.underway ≡ length (underway_of at.d.reading.page) = ap length at.is.underway in
      record {
        begins = first_shown (owned_of s) (λ w. w.asked line.name ≡ 0) (moves_of run.runs) (begins s) worlds run.shown
            (λ shown is. ap shown.asked at.is.name ∙ is.asked i at.o (new_device at.o.account) at.owner (home_at (owned_of s) i at.o at.owner));
        each = all_positions (AreAskedFirst line) worlds (asked_first i line at);
        ends = last_shown (owned_of s) (λ w. (length (w.pages line.name) ≡ length line.pages) × (w.asked line.name ≡ length line.pages + length line.underway)) (moves_of run.runs) (begins s) worlds run.shown
            (λ shown is.
            let here : IsShown (owned_of s) run.last shown = subst (λ v. IsShown (owned_of s) v shown) (sym last_state) is in
            let pages = here.pages i at.o at.d at.owner at.device in
            let asked = here.asked i at.o at.d at.owner at.device in
            let sum = asked_sum at.d.reading at.d.reading.page in (
              ap (λ name. length (shown.pages name)) at.is.name ∙ (pages ∙ sym tiles),
              ap shown.asked at.is.name ∙ (asked ∙ (sum ∙ omega (arith, tiles, underway))),
            ));
        one = let few = few_underway at.d.reading.page in omega (arith, underway, few);
      }

  marks_right : (i : ℕ) (line : DeviceView) → At i line → AreMarksRight line
  marks_right i line at =
      let kept = ((ground_of s worlds r run).taken.devices i at.d at.device).sessions in
      record {
        present = subst (λ e. AllByRecursion (λ said. said.state ≡ Waiting → said.epoch ≡ e) line.said) (sym at.is.epoch)
            (subst (AllByRecursion (λ said. said.state ≡ Waiting → said.epoch ≡ sessions.epoch_of at.d.sessions)) (sym at.is.said) (waits_now at.d.sessions kept));
        one_kind = subst (λ e. AllByRecursion (λ a. AllByRecursion (λ b. a.state ≡ Waiting → b.epoch ≡ e → b.state ≢ Undecided) line.said) line.said) (sym at.is.epoch)
            (subst (λ (lines : List SaidLine). AllByRecursion (λ a. AllByRecursion (λ b. a.state ≡ Waiting → b.epoch ≡ sessions.epoch_of at.d.sessions → b.state ≢ Undecided) lines) lines) (sym at.is.said) (one_kind at.d.sessions kept));
      }

  abbrev line_of : List ℕ → AccountView
  line_of name = account_line (keep_of s.version) (history_at (owned_of s) run.last.takes name) name

  kept_of : (name : List ℕ) → is_among name (accounts_of (steps_in s)) ≡ true → AreKeptOf (keep_of s.version) name (history_at (owned_of s) run.last.takes name) 0 worlds
  kept_of name exists = kept_along (owned_of s) (keep_of s.version) name (moves_of run.runs) (begins s) run.last worlds 0 run.reaches run.shown refl exists (omega arith)

  archive_is : (name : List ℕ) → is_among name (accounts_of (steps_in s)) ≡ true → IsArchiveOf (keep_of s.version) worlds (line_of name)
  archive_is name exists =
      let g = ground_of s worlds r run in
      record {
        history = history_at (owned_of s) run.last.takes name;
        begins = first_shown (owned_of s) (λ w. w.archive name ≡ []) (moves_of run.runs) (begins s) worlds run.shown (λ shown is. is.archive name exists ∙ newest_none (keep_of s.version));
        each = kept_of name exists;
        ends = last_shown (owned_of s) (λ w. w.archive name ≡ newest (keep_of s.version) (history_at (owned_of s) run.last.takes name)) (moves_of run.runs) (begins s) worlds run.shown
            (λ shown is.
            let here : IsShown (owned_of s) run.last shown = subst (λ v. IsShown (owned_of s) v shown) (sym last_state) is in
            here.archive name (ap (is_among name) g.exist ∙ exists) ∙ ap (λ k. newest k (history_at (owned_of s) run.last.takes name)) g.keeps);
        entries = refl;
        last = refl;
      }

  of_accounts : (P : AccountView → Type 0) → ((name : List ℕ) → is_among name (accounts_of (steps_in s)) ≡ true → P (line_of name)) → AllByRecursion P r.accounts
  of_accounts P each =
      subst (AllByRecursion P) (sym run.reported.accounts)
      (all_map P line_of (accounts_of (steps_in s)) (AllByRecursion-weaker (λ name. is_among name (accounts_of (steps_in s)) ≡ true) (λ name. P (line_of name)) each (accounts_of (steps_in s)) (each_among (accounts_of (steps_in s)))))

  pub run_of_worlds : IsOfWorlds worlds (seen_of s) r
  run_of_worlds =
      let g = ground_of s worlds r run in
      record {
        pages = each_device (ArePagesAsked worlds) (keep_of s.version) s.version (owned_of s) (accounts_of (steps_in s)) run.last r g pages_asked;
        archives = of_accounts (IsArchiveOf (keep_of s.version) worlds) archive_is;
        fronts = λ none. of_accounts (λ a. AreFronts a.name worlds)
            (λ name exists.
            let history = history_at (owned_of s) run.last.takes name in
            let few = history_few (owned_of s) run.last.takes name in
            let all = run.few in
            fronts_of (keep_of s.version) name history 0 worlds (unpurged s.version (length history) none (omega (arith, few, all))) (kept_of name exists));
        marks = each_device AreMarksRight (keep_of s.version) s.version (owned_of s) (accounts_of (steps_in s)) run.last r g marks_right;
      }
