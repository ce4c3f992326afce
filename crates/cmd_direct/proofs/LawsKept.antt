-- The direct run keeps each of the five laws of its version.
use Rattle.std.proofs.Common.{◌≡◌, ◌≢◌, ℕ, ◌+◌, ◌≤◌, true, false, List, [], length, map, IsTrue, refl, sym, ap, subst, ◌∙◌, arith}
use Rattle.std.proofs.lemmas.Bool.{and_parts, leb-true, true≢false}
use Rattle.std.proofs.lemmas.List.{length-map}
use Rattle.std.specs.List.{AllByRecursion, filter, flat_map}
use Rattle.std.specs.List.Sorted.{IsNonDecreasing}
use Rattle.std.specs.Option.{is_some}
use Rattle.std.specs.Str.{bytes_eq}
use Rattle.mam_archive.proofs.Newest.{newest_few}
use Rattle.mam_archive.specs.Entries.{EntryView, newest}
use Rattle.base_lemmas.proofs.Lists.{AllByRecursion-weaker}
use Rattle.base_io.specs.Names.{is_among}
use Rattle.cmd_direct.proofs.LawLists.{account_found}
use Rattle.cmd_direct.proofs.LawMoments.{AreNamed, IsStamped, archive_stamped, are_named, stamps_agree, stamps_rise, timeless, told_rise}
use Rattle.cmd_direct.proofs.LawTakes.{acknowledged, are_outcomes, are_submissions, first_epoch, history_is, taken_from, takes_exist, takes_rise, takes_submitted, takes_untimed}
use Rattle.cmd_direct.proofs.PrefixLaws.{account_whole, prefix_pages_right, prefix_right, unbroken_right}
use Rattle.cmd_direct.proofs.Prefixes.{takes_few}
use Rattle.cmd_direct.proofs.RunLaws.{pages_right, runs_right}
use Rattle.cmd_direct.specs.Direct.{account_line, device_line, direct_report, report_by, said_at, takes_of}
use Rattle.cmd_direct.specs.History.{direct_history, worlds_of}
use Rattle.cmd_report.proofs.Pairs.{pairs_by_both, pairs_by_first}
use Rattle.cmd_report.proofs.TakenArchives.{archive_few}
use Rattle.cmd_report.specs.EntryLines.{EntryLineView}
use Rattle.cmd_report.specs.Lawful.{AgreeOnStamp, ArePages, AreOutcomes, AreSubmissions, EachPair, IsAcknowledgedFirst, IsAcknowledgedRight, IsLawful, IsLogged, IsOfSchedule, IsOnceInOrder, IsPaged, IsPrefixOfAccount, IsSettledRight, IsTakenFirst, IsTakenRight, IsUndisturbed, Precedes, account_named, at_any_time, is_taken, takes_in}
use Rattle.cmd_report.specs.LawfulRuns.{ArePagesOfRuns, IsInForm, IsLawfulKeeping, IsLoggedInRuns, IsNewestOf, IsPagedInRuns, IsRunsOf, IsTakenAndKept, KeepsLaws, KeepsLawsOf, history_of, tells_moments}
use Rattle.cmd_report.specs.Lines.{entry_line, reported_moment, take_line}
use Rattle.cmd_report.specs.Reports.{AccountView, DeviceView}
use Rattle.cmd_report.specs.Takes.{archive_of}
use Rattle.cmd_report.specs.declared.report.SaidMark.TheVariants.{Acknowledged, Waiting}
use Rattle.cmd_schedule.proofs.Lists.{all_flat_map, all_map, all_of, map-map, map_nothing}
use Rattle.cmd_schedule.proofs.StandingSteps.{AreStanding, few_lines, homes_are, homes_exist, steps_stand}
use Rattle.cmd_schedule.specs.Contents.{Owned, accounts_of, along, devices_of, home_of, is_account}
use Rattle.cmd_schedule.specs.Grammar.{IsDirectSchedule, may_keep, nothing_declared}
use Rattle.cmd_schedule.specs.Schedules.{ScheduleView, keep_of, steps_of}
use Rattle.cmd_schedule.specs.declared.schedule.Line.{Line}
use Rattle.cmd_schedule.specs.declared.schedule.Step.{Step}
use Rattle.cmd_schedule.specs.declared.schedule.Version.{Version}
use Rattle.cmd_schedule.specs.declared.schedule.Version.TheVariants.{One, Two}

known_steps : (s : ScheduleView) → IsDirectSchedule s → AreStanding [] (steps_of s.lines)
known_steps s known = steps_stand [] 2 s.lines known.lines

known_few : (s : ScheduleView) → IsDirectSchedule s → length (steps_of s.lines) ≤ 100000
known_few s known =
    let lines : length s.lines + 2 ≤ 100001 = few_lines nothing_declared 2 s.lines (omega arith) known.lines in
    omega (arith, length-map s.lines (λ (line : Line). line.step))

-- what holds of each device's line, whatever its name
each_device : (P : DeviceView → Type 0) (keep : ℕ) (all : List Step) → ((name : List ℕ) → P (device_line keep all name)) → AllByRecursion P (map (device_line keep all) (devices_of all))
each_device P keep all each = all_map P (device_line keep all) (devices_of all) (all_of (λ name. P (device_line keep all name)) each (devices_of all))

each_account : (P : AccountView → Type 0) (keep : ℕ) (all : List Step) → ((name : List ℕ) → P (account_line keep all name)) → AllByRecursion P (map (account_line keep all) (accounts_of all))
each_account P keep all each = all_map P (account_line keep all) (accounts_of all) (all_of (λ name. P (account_line keep all name)) each (accounts_of all))

abbrev home_line : DeviceView → Owned
home_line d = record { device = d.name; account = d.account }

abbrev account_name_of : AccountView → List ℕ
account_name_of a = a.name

pub of_schedule : (version : Version) (s : ScheduleView) → IsDirectSchedule s → IsOfSchedule s (report_by version (steps_of s.lines))
of_schedule version s known =
    let all = steps_of s.lines in
    let keep = keep_of version in
    record {
      mode = sym known.direct;
      accounts = map-map (account_line keep all) account_name_of (accounts_of all) ∙ map_nothing (λ name. name) (accounts_of all) (all_of (λ name. name ≡ name) (λ name. refl) (accounts_of all));
      devices = map-map (device_line keep all) home_line (devices_of all) ∙ homes_are all [] all refl (known_steps s known);
      counts = each_account (λ a. a.count ≡ length a.entries) keep all (λ name. sym (length-map (newest keep (archive_of name (takes_of all all))) entry_line));
      conns = λ direct. refl;
    }

-- In version 1 an archive keeps all entries.

whole_kept : (all : List Step) → length all ≤ 100000 → (name : List ℕ) → newest 4294967295 (archive_of name (takes_of all all)) ≡ archive_of name (takes_of all all)
whole_kept all few name =
    newest_few 4294967295 (archive_of name (takes_of all all)) (omega (arith, few, archive_few name (takes_of all all), takes_few all all))

-- The form.

moment_told : (version : Version) (moment : ℕ) → is_some (reported_moment version moment) ≡ tells_moments version
moment_told One moment = refl
moment_told (Two keep) moment = refl

moments_told : (version : Version) (all : List Step) → AllByRecursion (λ line. is_some line.moment ≡ tells_moments version) (map (take_line version) (takes_of all all))
moments_told version all =
    all_map (λ line. is_some line.moment ≡ tells_moments version) (take_line version) (takes_of all all)
    (all_of (λ take. is_some (take_line version take).moment ≡ tells_moments version) (λ take. moment_told version take.moment) (takes_of all all))

form_one : (s : ScheduleView) → IsDirectSchedule s → IsInForm One (report_by One (steps_of s.lines))
form_one s known =
    let all = steps_of s.lines in
    let keep = keep_of One in
    let few : length all ≤ 100000 = known_few s known in
    record {
      is = refl;
      moments = moments_told One all;
      lasts = λ untold. each_account (λ a. a.last ≡ a.count) keep all (λ name. account_whole keep all name (omega arith) few);
      unbroken = λ untold. each_device (λ d. AllByRecursion (λ l. l.broken ≡ false) d.logged) keep all
          (λ name. unbroken_right keep all name (omega arith) (known_steps s known) few);
    }

form_two : (keep : ℕ) (all : List Step) → IsInForm (Two keep) (report_by (Two keep) all)
form_two keep all = record {
  is = refl;
  moments = moments_told (Two keep) all;
  lasts = λ untold. absurd (true≢false untold);
  unbroken = λ untold. absurd (true≢false untold);
}

pub in_form : (version : Version) (s : ScheduleView) → IsDirectSchedule s → IsInForm version (report_by version (steps_of s.lines))
in_form One s known = form_one s known
in_form (Two keep) s known = form_two keep (steps_of s.lines)

-- Law 1.

archive_taken : (all : List Step) → AreStanding [] all → length all ≤ 100000 → (name : List ℕ) →
    map at_any_time (account_line 4294967295 all name).entries ≡ map (λ e. at_any_time (entry_line e)) (archive_of name (takes_in (report_by One all)))
archive_taken all known few name =
    ap (λ kept. map at_any_time (map entry_line kept)) (whole_kept all few name)
    ∙ map-map entry_line at_any_time (archive_of name (takes_of all all))
    ∙ timeless name (takes_of all all)
    ∙ ap (λ takes. map (λ e. at_any_time (entry_line e)) (archive_of name takes)) (sym (takes_untimed all known))

stamps_kept : (all : List Step) → length all ≤ 100000 → (name : List ℕ) → IsNonDecreasing (map (λ e. e.stamp) (account_line 4294967295 all name).entries)
stamps_kept all few name =
    subst (λ (kept : List EntryView). IsNonDecreasing (map (λ (e : EntryLineView). e.stamp) (map entry_line kept))) (sym (whole_kept all few name)) (stamps_rise all name)

entries_stamped : (all : List Step) → AreStanding [] all → AreNamed all → length all ≤ 100000 → (name : List ℕ) → AllByRecursion (IsStamped all) (account_line 4294967295 all name).entries
entries_stamped all known named few name =
    subst (λ (kept : List EntryView). AllByRecursion (IsStamped all) (map entry_line kept)) (sym (whole_kept all few name))
    (archive_stamped all known named (omega arith) name)

one_stamp : (all : List Step) → AreStanding [] all → AreNamed all → length all ≤ 100000 → EachPair AgreeOnStamp (flat_map (λ a. a.entries) (map (account_line 4294967295 all) (accounts_of all)))
one_stamp all known named few =
    pairs_by_both (IsStamped all) AgreeOnStamp (stamps_agree all) (flat_map (λ (a : AccountView). a.entries) (map (account_line 4294967295 all) (accounts_of all)))
    (all_flat_map (IsStamped all) (λ (a : AccountView). a.entries) (map (account_line 4294967295 all) (accounts_of all))
    (each_account (λ a. AllByRecursion (IsStamped all) a.entries) 4294967295 all (entries_stamped all known named few)))

pub taken_right : (s : ScheduleView) → IsDirectSchedule s → IsTakenRight s (report_by One (steps_of s.lines))
taken_right s known =
    let all = steps_of s.lines in
    let keep = keep_of One in
    let standing : AreStanding [] all = known_steps s known in
    let few : length all ≤ 100000 = known_few s known in
    record {
      whole = of_schedule One s known;
      archives = each_account (λ a. map at_any_time a.entries ≡ map (λ e. at_any_time (entry_line e)) (archive_of a.name (takes_in (report_by One all)))) keep all (archive_taken all standing few);
      stamps = each_account (λ a. IsNonDecreasing (map (λ e. e.stamp) a.entries)) keep all (stamps_kept all few);
      one_stamp = one_stamp all standing (are_named nothing_declared 2 s.lines known.lines) few;
      submitted = takes_submitted One keep all standing;
      exist = takes_exist One all standing;
      numbered = each_device (λ d. AreSubmissions d.said) keep all (λ name. are_submissions name all);
      epochs = each_device (λ d. AllByRecursion (λ said. (1 ≤ said.epoch) × (said.epoch ≤ d.epoch)) d.said) keep all (λ name. first_epoch name [] all);
      said = each_device (λ d. AreOutcomes d.name s.lines d.said d.refused) keep all (λ name. are_outcomes name [] s.lines);
    }

newest_kept : (keep : ℕ) (all : List Step) → AreStanding [] all → (name : List ℕ) → IsNewestOf keep (history_of (report_by (Two keep) all) name) (account_line keep all name)
newest_kept keep all known name =
    subst (λ (history : List EntryView). IsNewestOf keep history (account_line keep all name)) (sym (history_is keep all known name)) (record { entries = refl; last = refl })

pub taken_and_kept : (keep : ℕ) (s : ScheduleView) → IsDirectSchedule s → IsTakenAndKept keep s (report_by (Two keep) (steps_of s.lines))
taken_and_kept keep s known =
    let all = steps_of s.lines in
    let standing : AreStanding [] all = known_steps s known in
    record {
      whole = of_schedule (Two keep) s known;
      archives = each_account (λ a. IsNewestOf keep (history_of (report_by (Two keep) all) a.name) a) keep all (newest_kept keep all standing);
      moments = told_rise keep all;
      submitted = takes_submitted (Two keep) keep all standing;
      exist = takes_exist (Two keep) all standing;
      numbered = each_device (λ d. AreSubmissions d.said) keep all (λ name. are_submissions name all);
      epochs = each_device (λ d. AllByRecursion (λ said. (1 ≤ said.epoch) × (said.epoch ≤ d.epoch)) d.said) keep all (λ name. first_epoch name [] all);
      said = each_device (λ d. AreOutcomes d.name s.lines d.said d.refused) keep all (λ name. are_outcomes name [] s.lines);
    }

-- Law 2.

gapless : (version : Version) (s : ScheduleView) (name : List ℕ) →
    EachPair (IsTakenFirst s (map (take_line version) (takes_of (steps_of s.lines) (steps_of s.lines))) name) (along (said_at name) [] (steps_of s.lines))
gapless version s name =
    let all = steps_of s.lines in
    pairs_by_first (λ said. is_among said.to (accounts_of all) ≡ true → is_taken (map (take_line version) (takes_of all all)) name said ≡ true)
    (IsTakenFirst s (map (take_line version) (takes_of all all)) name)
    (λ first second taken same exists later. taken exists) (along (said_at name) [] all) (taken_from version all name [] all)

pub once_in_order : (version : Version) (s : ScheduleView) → IsDirectSchedule s → IsOnceInOrder s (report_by version (steps_of s.lines))
once_in_order version s known =
    let all = steps_of s.lines in
    let keep = keep_of version in
    record {
      whole = of_schedule version s known;
      rise = each_device (λ d. EachPair Precedes (filter (λ t. bytes_eq d.name t.device) (map (take_line version) (takes_of all all)))) keep all (takes_rise version all);
      gapless = each_device (λ d. EachPair (IsTakenFirst s (map (take_line version) (takes_of all all)) d.name) d.said) keep all (gapless version s);
    }

-- Law 3.

settled_right : (keep : ℕ) (all : List Step) (name : List ℕ) → IsSettledRight (device_line keep all name)
settled_right keep all name = record {
  nothing_waits = AllByRecursion-weaker (λ said. said.state ≡ Acknowledged) (λ said. said.state ≢ Waiting) (λ said is waits. cc) (along (said_at name) [] all) (acknowledged name [] all);
  nothing_underway = refl;
  present_epoch = AllByRecursion-weaker (λ said. said.state ≡ Acknowledged) (λ said. said.epoch ≡ 1 → said.state ≡ Acknowledged) (λ said is epoch. is) (along (said_at name) [] all) (acknowledged name [] all);
}

acknowledged_taken : (version : Version) (all : List Step) (name : List ℕ) →
    AllByRecursion (λ said. said.state ≡ Acknowledged → IsTrue (is_among said.to (accounts_of all)) → IsTrue (is_taken (map (take_line version) (takes_of all all)) name said)) (along (said_at name) [] all)
acknowledged_taken version all name =
    AllByRecursion-weaker (λ said. is_among said.to (accounts_of all) ≡ true → is_taken (map (take_line version) (takes_of all all)) name said ≡ true)
    (λ said. said.state ≡ Acknowledged → IsTrue (is_among said.to (accounts_of all)) → IsTrue (is_taken (map (take_line version) (takes_of all all)) name said))
    (λ said taken is. taken) (along (said_at name) [] all) (taken_from version all name [] all)

pub acknowledged_right : (version : Version) (s : ScheduleView) → IsDirectSchedule s → IsAcknowledgedRight s (report_by version (steps_of s.lines))
acknowledged_right version s known =
    let all = steps_of s.lines in
    let keep = keep_of version in
    record {
      whole = of_schedule version s known;
      taken = each_device
          (λ d. AllByRecursion (λ said. said.state ≡ Acknowledged → IsTrue (is_account s said.to) → IsTrue (is_taken (map (take_line version) (takes_of all all)) d.name said)) d.said)
          keep all (acknowledged_taken version all);
      first = each_device (λ d. EachPair IsAcknowledgedFirst d.said) keep all
          (λ name. pairs_by_first (λ said. said.state ≡ Acknowledged) IsAcknowledgedFirst (λ a b is same later. is) (along (said_at name) [] all) (acknowledged name [] all));
      settled = each_device (λ d. IsTrue d.settled → IsSettledRight d) keep all (λ name yes. settled_right keep all name);
      direct = λ is. each_device IsUndisturbed keep all (λ name. record { settled = refl; epoch = refl; nothing_refused = refl; nothing_held = refl });
    }

-- Laws 4 and 5 of version 1.

prefix_of_account : (all : List Step) (name : List ℕ) → AreStanding [] all → length all ≤ 100000 → is_among (home_of all name) (accounts_of all) ≡ true →
    IsPrefixOfAccount (device_line 4294967295 all name) (account_named (home_of all name) (map (account_line 4294967295 all) (accounts_of all)))
prefix_of_account all name known few exists =
    rw (account_found 4294967295 all (home_of all name) (accounts_of all) exists) (prefix_right 4294967295 all name (omega arith) known few)

pub logged_right : (s : ScheduleView) → IsDirectSchedule s → IsLogged s (report_by One (steps_of s.lines))
logged_right s known =
    let all = steps_of s.lines in
    let keep = keep_of One in
    record {
      whole = of_schedule One s known;
      prefix = all_map (λ d. IsPrefixOfAccount d (account_named d.account (map (account_line keep all) (accounts_of all)))) (device_line keep all) (devices_of all)
          (AllByRecursion-weaker (λ name. is_among (home_of all name) (accounts_of all) ≡ true)
          (λ name. IsPrefixOfAccount (device_line keep all name) (account_named (home_of all name) (map (account_line keep all) (accounts_of all))))
          (λ name exists. prefix_of_account all name (known_steps s known) (known_few s known) exists) (devices_of all) (homes_exist all [] all refl (known_steps s known)));
    }

pub paged_right : (s : ScheduleView) → IsDirectSchedule s → IsPaged (worlds_of 4294967295 (steps_of s.lines)) s (report_by One (steps_of s.lines))
paged_right s known =
    let all = steps_of s.lines in
    record {
      whole = of_schedule One s known;
      pages = each_device (ArePages (worlds_of 4294967295 all) s) 4294967295 all
          (λ name. prefix_pages_right 4294967295 s all name refl (omega arith) (known_steps s known) (known_few s known));
    }

-- Laws 4 and 5 of version 2.

pub logged_in_runs : (keep : ℕ) (s : ScheduleView) → IsDirectSchedule s → 1 ≤ keep → IsLoggedInRuns keep s (report_by (Two keep) (steps_of s.lines))
logged_in_runs keep s known some =
    let all = steps_of s.lines in
    let standing : AreStanding [] all = known_steps s known in
    record {
      whole = of_schedule (Two keep) s known;
      runs = each_device (λ d. IsRunsOf keep (history_of (report_by (Two keep) all) d.account) d) keep all
          (λ name. subst (λ (history : List EntryView). IsRunsOf keep history (device_line keep all name)) (sym (history_is keep all standing (home_of all name)))
          (runs_right keep all name some standing (known_few s known)));
    }

pub paged_in_runs : (keep : ℕ) (s : ScheduleView) → IsDirectSchedule s → 1 ≤ keep → IsPagedInRuns keep (worlds_of keep (steps_of s.lines)) s (report_by (Two keep) (steps_of s.lines))
paged_in_runs keep s known some =
    let all = steps_of s.lines in
    let standing : AreStanding [] all = known_steps s known in
    record {
      whole = of_schedule (Two keep) s known;
      pages = each_device (λ d. ArePagesOfRuns keep (worlds_of keep all) s (history_of (report_by (Two keep) all) d.account) d) keep all
          (λ name. subst (λ (history : List EntryView). ArePagesOfRuns keep (worlds_of keep all) s history (device_line keep all name)) (sym (history_is keep all standing (home_of all name)))
          (pages_right keep s all name refl some standing (known_few s known)));
    }

-- The five laws.

lawful_one : (s : ScheduleView) → IsDirectSchedule s → IsLawful (worlds_of 4294967295 (steps_of s.lines)) s (report_by One (steps_of s.lines))
lawful_one s known = record {
  taken = taken_right s known;
  in_order = once_in_order One s known;
  acknowledged = acknowledged_right One s known;
  logged = logged_right s known;
  paged = paged_right s known;
}

lawful_two : (keep : ℕ) (s : ScheduleView) → IsDirectSchedule s → 1 ≤ keep → IsLawfulKeeping keep (worlds_of keep (steps_of s.lines)) s (report_by (Two keep) (steps_of s.lines))
lawful_two keep s known some = record {
  taken = taken_and_kept keep s known;
  in_order = once_in_order (Two keep) s known;
  acknowledged = acknowledged_right (Two keep) s known;
  logged = logged_in_runs keep s known some;
  paged = paged_in_runs keep s known some;
}

-- a version that may stand keeps an entry at least
pub keeps_some : (version : Version) → IsTrue (may_keep version) → 1 ≤ keep_of version
keeps_some One may = omega arith
keeps_some (Two keep) may = leb-true 1 keep (and_parts _ _ may).0

laws_of : (version : Version) (s : ScheduleView) → IsDirectSchedule s → IsTrue (may_keep version) →
    KeepsLawsOf version (worlds_of (keep_of version) (steps_of s.lines)) s (report_by version (steps_of s.lines))
laws_of One s known may = lawful_one s known
laws_of (Two keep) s known may = lawful_two keep s known (keeps_some (Two keep) may)

pub lawful : (s : ScheduleView) → IsDirectSchedule s → KeepsLaws (direct_history s) s (direct_report s)
unfolding direct_report
lawful s known = record { form = in_form s.version s known; laws = laws_of s.version s known known.keeps }
