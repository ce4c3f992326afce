-- A run from a schedule's first step to its last.
use Rattle.std.proofs.Common.{◌≡◌, ℕ, zero, suc, add-one, ◌+◌, ◌-◌, ◌<◌, ◌≤◌, true, false, List, [], ◌∷◌, ◌++◌, Some, not, ◌&&◌, nat_lt, length, take, drop, get_or, map, refl, sym, ap, ◌∙◌, subst, arith}
use Rattle.std.proofs.lemmas.Bool.{and_parts, not-true, or_left}
use Rattle.std.proofs.Math.Seq.{drop-nil}
use Rattle.std.proofs.lemmas.List.{append-nil, get_or-map, length-map, length-take, map-append, take-append-drop, take_all, take_more}
use Rattle.std.proofs.lemmas.List.Concat.{flat_map-append}
use Rattle.std.proofs.lemmas.List.Elements.{All-nil}
use Rattle.std.proofs.lemmas.List.Folds.{list_any-append}
use Rattle.std.proofs.lemmas.Option.{get_or_from_slice_get, none-some, slice_get-get_or, slice_get_within}
use Rattle.std.specs.List.{All, slice_get}
use Rattle.std.specs.Str.{bytes_eq}
use Rattle.mam_archive.specs.Entries.{EntryView}
use Rattle.mam_log.specs.LogPages.{LogPage, tile_of}
use Rattle.cmd_replay.proofs.Deliveries.{once_push}
use Rattle.cmd_schedule.proofs.Prefixes.{accounts_push, right_steps}
use Rattle.cmd_replay.proofs.FollowedSteps.{after_followed, may_follow, ready_after}
use Rattle.cmd_report.proofs.LoggedLines.{logged_by-pages}
use Rattle.cmd_direct.specs.Direct.{account_line, device_line, direct_report, pages_of, takes_of}
use Rattle.cmd_direct.proofs.LawsKept.{keeps_some}
use Rattle.cmd_schedule.proofs.Moments.{moment_few}
use Rattle.cmd_schedule.specs.Contents.{account_name, accounts_of, moment_after}
use Rattle.cmd_report.specs.Lines.{page_line, tile_line}
use Rattle.cmd_schedule.specs.Grammar.{IsDirectSchedule, is_name}
use Rattle.base_io.specs.Names.{is_among}
use Rattle.cmd_replay.specs.Homes.{Home, empty_home, home_at, names_of}
use Rattle.cmd_replay.specs.ReportLines.{home_line, report_of, state_line}
use Rattle.cmd_report.specs.Reports.{DeviceView}
use Rattle.cmd_replay.specs.Runs.{HasFollowed, IsAfter, IsDevice, IsReady, MayFollow}
use Rattle.cmd_schedule.specs.Schedules.{ScheduleView, keep_of, steps_of}
use Rattle.cmd_schedule.specs.declared.schedule.Version.{Version}
use Rattle.cmd_schedule.specs.Standing.{AreOnce, AreRight}
use Rattle.cmd_replay.specs.declared.run.Run.{Run}
use Rattle.cmd_replay.specs.Devices.{DeviceState}
use Rattle.cmd_schedule.specs.declared.schedule.Line.{Line}
use Rattle.cmd_schedule.specs.declared.schedule.Step.{Step}
use Rattle.cmd_schedule.specs.declared.schedule.Step.TheVariants.{Account, Device as DeviceStep, Say, Private, Catchup, Tick}

-- the first steps, with the next one
pub taken_push : (all : List Step) (i : ℕ) (step : Step) → slice_get all i ≡ Some step → take (i + 1) all ≡ take i all ++ step ∷ []
taken_push all i step there =
    take_more all i step (slice_get_within all i step there) ∙ ap (λ s. take i all ++ s ∷ []) (get_or_from_slice_get all i step step there)

pub account_fresh : (all : List Step) (i : ℕ) (name : List ℕ) → AreRight all → slice_get all i ≡ Some (Account name) → is_among name (accounts_of (take i all)) ≡ false
account_fresh all i name right there =
    not-true (is_among name (accounts_of (take i all)))
    (and_parts (nat_lt (length (accounts_of (take i all))) 100 && is_name name) (not (is_among name (accounts_of (take i all)))) (right.each i (Account name) there)).1

accounts_once_after : (before : List Step) (step : Step) → AreOnce (accounts_of before) → ((name : List ℕ) → step ≡ Account name → is_among name (accounts_of before) ≡ false) →
    AreOnce (accounts_of (before ++ step ∷ []))
accounts_once_after before (Account name) once fresh = subst AreOnce (sym (accounts_push before (Account name))) (once_push (accounts_of before) name once (fresh name refl))
accounts_once_after before (DeviceStep name account) once fresh = subst AreOnce (sym (accounts_push before (DeviceStep name account) ∙ append-nil (accounts_of before))) once
accounts_once_after before (Say device to text) once fresh = subst AreOnce (sym (accounts_push before (Say device to text) ∙ append-nil (accounts_of before))) once
accounts_once_after before (Private device to text) once fresh = subst AreOnce (sym (accounts_push before (Private device to text) ∙ append-nil (accounts_of before))) once
accounts_once_after before (Catchup device most) once fresh = subst AreOnce (sym (accounts_push before (Catchup device most) ∙ append-nil (accounts_of before))) once
accounts_once_after before (Tick ms) once fresh = subst AreOnce (sym (accounts_push before (Tick ms) ∙ append-nil (accounts_of before))) once

none_once : AreOnce []
none_once = record { first = λ k name there. absurd (none-some name there) }

accounts_once_to : (all : List Step) (i : ℕ) → AreRight all → i ≤ length all → AreOnce (accounts_of (take i all))
accounts_once_to all zero right within = none_once
accounts_once_to all (suc i) right within =
    let at : i < length all = omega arith in
    let first : Step = first_of_list all (omega arith) in
    let there : slice_get all i ≡ Some (get_or all i first) = slice_get-get_or all i first at in
    subst (λ ss. AreOnce (accounts_of ss)) (sym (taken_push all i (get_or all i first) there) ∙ ap (λ n. take n all) (add-one i))
    (accounts_once_after (take i all) (get_or all i first) (accounts_once_to all i right (omega arith))
    (λ name same. account_fresh all i name right (there ∙ ap Some same)))
  where
    first_of_list : (steps : List Step) → 0 < length steps → Step
    first_of_list [] some = absurd (omega arith)
    first_of_list (s ∷ steps) some = s

pub accounts_once : (all : List Step) → AreRight all → AreOnce (accounts_of all)
accounts_once all right = subst (λ ss. AreOnce (accounts_of ss)) (take_all (length all) all (omega arith)) (accounts_once_to all (length all) right (omega arith))

-- what was declared so far is declared
pub declared_later : (all : List Step) (i : ℕ) (name : List ℕ) → is_among name (accounts_of (take i all)) ≡ true → is_among name (accounts_of all) ≡ true
declared_later all i name there =
    ap (λ ss. is_among name (accounts_of ss)) (sym (take-append-drop i all))
    ∙ ap (is_among name) (flat_map-append account_name (take i all) (drop i all))
    ∙ list_any-append (λ other. bytes_eq name other) (accounts_of (take i all)) (accounts_of (drop i all))
    ∙ or_left (is_among name (accounts_of (take i all))) (is_among name (accounts_of (drop i all))) there

few_before : (all : List Step) (i : ℕ) (step : Step) → AreRight all → slice_get all i ≡ Some step → length (take i all) < 100000
few_before all i step right there =
    let within : i < length all = slice_get_within all i step there in
    let few = right.few in
    omega (arith, length-take i all)

early_before : (all : List Step) (i : ℕ) (step : Step) → AreRight all → slice_get all i ≡ Some step → moment_after (take i all) ≤ 100000000000000
early_before all i step right there =
    let within : i < length all = slice_get_within all i step there in
    omega (arith, moment_few all i right, right.few)

-- the run is ready for the step at its place
pub ready_at : (version : Version) (all : List Step) (i : ℕ) (step : Step) (run : Run) → AreRight all → slice_get all i ≡ Some step → IsAfter version all (take i all) run → IsReady run
ready_at version all i step run right there is = ready_after version all (take i all) run (few_before all i step right there) (early_before all i step right there) is

pub may_at : (version : Version) (all : List Step) (i : ℕ) (step : Step) (run : Run) → AreRight all → slice_get all i ≡ Some step → IsAfter version all (take i all) run → MayFollow run step
may_at version all i step run right there is = may_follow version all (take i all) run step is (declared_later all i) (right.each i step there)

pub after_at : (version : Version) (all : List Step) (i : ℕ) (step : Step) (run next : Run) → 1 ≤ keep_of version → AreRight all → slice_get all i ≡ Some step →
    IsAfter version all (take i all) run → HasFollowed run next step → IsAfter version all (take (i + 1) all) next
after_at version all i step run next some right there is did =
    subst (λ ss. IsAfter version all ss next) (sym (taken_push all i step there))
    (after_followed version all (take i all) run next step (few_before all i step right there) some (accounts_once all right) is (may_at version all i step run right there is) did)

nothing_kept : (keep : ℕ) (names : List (List ℕ)) → map empty_home names ≡ map (home_at keep []) names
nothing_kept keep [] = refl
nothing_kept keep (name ∷ names) =
    ap (λ (es : List EntryView). let home : Home = record { name = name; last = 0; entries = es } in home ∷ map empty_home names) (sym (drop-nil (0 - keep)))
    ∙ ap (λ (homes : List Home). home_at keep [] name ∷ homes) (nothing_kept keep names)

-- the run before the first step
pub after_none : (version : Version) (all : List Step) (run : Run) → run.clock.version ≡ version → run.clock.moment ≡ 0 → run.accounts.keep ≡ keep_of version →
    run.accounts.homes ≡ map empty_home (accounts_of all) → run.takes.items ≡ [] → run.index ≡ [] → run.devices.items ≡ [] → IsAfter version all [] run
after_none version all run version_is moment keeps homes takes index devices = record {
  version_is = version_is;
  keeps = keeps;
  moment = moment;
  homes = homes ∙ nothing_kept (keep_of version) (accounts_of all);
  takes = takes;
  index = index;
  names = ap (map (λ (d : DeviceState). d.name)) devices;
  devices = subst (λ (ds : List DeviceState). All (IsDevice (keep_of version) all []) ds) (sym devices) (All-nil (IsDevice (keep_of version) all []));
  once = none_once;
  unused = λ name absent. record { said = refl; pages = refl };
}

page_lines_same : (pages : List LogPage) → map tile_line (map tile_of pages) ≡ map page_line pages
page_lines_same [] = refl
page_lines_same (p ∷ pages) = ap (λ t. page_line p ∷ t) (page_lines_same pages)

-- a device at the end
device_told : (keep : ℕ) (all : List Step) (device : DeviceState) → IsDevice keep all all device → state_line device ≡ device_line keep all device.name
device_told keep all device is =
    rw (is.account, is.said, is.log.entries, is.log.tiles, page_lines_same (pages_of keep all device.name all), logged_by-pages 0 (pages_of keep all device.name all)) refl

devices_told : (keep : ℕ) (all : List Step) (devices : List DeviceState) → All (IsDevice keep all all) devices →
    map state_line devices ≡ map (device_line keep all) (map (λ (d : DeviceState). d.name) devices)
devices_told keep all [] each = refl
devices_told keep all (device ∷ devices) each =
    let here : state_line device ≡ device_line keep all device.name = device_told keep all device (each zero device (omega arith)) in
    let rest = devices_told keep all devices (λ k d within. each (suc k) d (omega arith)) in
    ap (λ (line : DeviceView). line ∷ map state_line devices) here ∙ ap (λ (lines : List DeviceView). device_line keep all device.name ∷ lines) rest

accounts_told : (keep : ℕ) (all : List Step) (names : List (List ℕ)) → map home_line (map (home_at keep (takes_of all all)) names) ≡ map (account_line keep all) names
accounts_told keep all [] = refl
accounts_told keep all (name ∷ names) = ap (λ t. account_line keep all name ∷ t) (accounts_told keep all names)

-- the report of a run behind the last step
pub report_told : (schedule : ScheduleView) (run : Run) → IsAfter schedule.version (steps_of schedule.lines) (steps_of schedule.lines) run → report_of run ≡ direct_report schedule
unfolding direct_report
report_told schedule run is =
    let all = steps_of schedule.lines in
    rw (
      is.version_is,
      is.takes,
      is.homes,
      accounts_told (keep_of schedule.version) (steps_of schedule.lines) (accounts_of (steps_of schedule.lines)),
      devices_told (keep_of schedule.version) (steps_of schedule.lines) run.devices.items is.devices,
      is.names,
    ) refl

-- the step of the line at a place
pub step_there : (lines : List Line) (i : ℕ) (line : Line) → i < length lines → line ≡ get_or lines i line → slice_get (steps_of lines) i ≡ Some line.step
step_there lines i line within is =
    slice_get-get_or (steps_of lines) i line.step (omega (arith, length-map lines (λ (l : Line). l.step)))
    ∙ ap Some (get_or-map (λ (l : Line). l.step) lines i line line.step within ∙ ap (λ (l : Line). l.step) (sym is))

-- the accounts that a line more declares
pub homes_more : (all : List Step) (i : ℕ) (step : Step) (homes next : List Home) → slice_get all i ≡ Some step → homes ≡ map empty_home (accounts_of (take i all)) →
    next ≡ homes ++ map empty_home (account_name step) → next ≡ map empty_home (accounts_of (take (i + 1) all))
homes_more all i step homes next there held is =
    is ∙ ap (λ hs. hs ++ map empty_home (account_name step)) held
    ∙ sym (map-append empty_home (accounts_of (take i all)) (account_name step))
    ∙ ap (map empty_home) (sym (accounts_push (take i all) step))
    ∙ ap (λ ss. map empty_home (accounts_of ss)) (sym (taken_push all i step there))

empty_names : (names : List (List ℕ)) → names_of (map empty_home names) ≡ names
empty_names [] = refl
empty_names (n ∷ names) = ap (λ t. n ∷ t) (empty_names names)

pub account_new : (all : List Step) (i : ℕ) (step : Step) (homes : List Home) → AreRight all → slice_get all i ≡ Some step → homes ≡ map empty_home (accounts_of (take i all)) →
    (name : List ℕ) → step ≡ Account name → is_among name (names_of homes) ≡ false
account_new all i step homes right there held name same =
    ap (λ hs. is_among name (names_of hs)) held ∙ ap (is_among name) (empty_names (accounts_of (take i all)))
    ∙ account_fresh all i name right (there ∙ ap Some same)

pub homes_all : (all : List Step) (i : ℕ) (homes : List Home) → length all ≤ i → homes ≡ map empty_home (accounts_of (take i all)) → homes ≡ map empty_home (accounts_of all)
homes_all all i homes past is = is ∙ ap (λ ss. map empty_home (accounts_of ss)) (take_all i all past)

pub after_all : (version : Version) (all : List Step) (i : ℕ) (run : Run) → length all ≤ i → IsAfter version all (take i all) run → IsAfter version all all run
after_all version all i run past is = subst (λ ss. IsAfter version all ss run) (take_all i all past) is

-- each archive keeps an entry at least
pub keep_some : (schedule : ScheduleView) → IsDirectSchedule schedule → 1 ≤ keep_of schedule.version
keep_some schedule is = keeps_some schedule.version is.keeps

-- a schedule's lines are in their places
pub lines_of_schedule : (lines : List Line) (schedule : ScheduleView) → lines ≡ schedule.lines → IsDirectSchedule schedule → AreRight (steps_of lines)
lines_of_schedule lines schedule same is = subst (λ ls. AreRight (steps_of ls)) (sym same) (right_steps schedule.lines is.lines)
