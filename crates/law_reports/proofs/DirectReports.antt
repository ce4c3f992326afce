-- The report of each direct schedule can be read, so that its text tells it.
use Rattle.std.proofs.Common.{◌≡◌, ℕ, zero, suc, ◌-◌, ◌<◌, ◌≤◌, ◌^◌, true, List, [], ◌∷◌, IfSome, IsTrue, length, map, drop, Ok, refl, sym, subst, arith}
use Rattle.std.proofs.lemmas.List.{append-nil, length-drop}
use Rattle.std.specs.List.{AllByRecursion}
use Rattle.std.specs.Prelude.{is_some}
use Rattle.mam_archive.specs.Entries.{EntryView, newest}
use Rattle.base_lemmas.proofs.Lists.{AllByRecursion-weaker}
use Rattle.cmd_direct.proofs.PageRuns.{ArePaged, history_at, history_few, paged_at, pages_at}
use Rattle.cmd_direct.proofs.Prefixes.{takes_few}
use Rattle.cmd_direct.specs.Direct.{account_line, device_line, device_with, direct_report, report_by, takes_of}
use Rattle.cmd_direct.proofs.LawsKept.{keeps_some}
use Rattle.base_io.specs.Names.{is_among}
use Rattle.law_reports.proofs.Archived.{IsLined, archive_lined, logged_right, pages_right}
use Rattle.law_reports.proofs.Declared.{IsKnown, IsNamed, IsTaken, both, home_named, known, said_right, takes_right}
use Rattle.law_reports.proofs.Fields.{name_visible, visible_field}
use Rattle.cmd_report.proofs.TakenArchives.{archive_few}
use Rattle.cmd_report.specs.LawfulRuns.{tells_moments}
use Rattle.cmd_report.specs.Lines.{entry_line, reported_moment, take_line}
use Rattle.cmd_report.specs.ReportText.{text_of}
use Rattle.cmd_report.specs.Reports.{AccountView}
use Rattle.cmd_report.specs.Takes.{Take, archive_of}
use Rattle.cmd_report_reader.proofs.Again.{report_again}
use Rattle.cmd_report_reader.proofs.Answered.{apart_of}
use Rattle.cmd_report_reader.specs.Readable.{IsAccount, IsDevice, IsEntry, IsLast, IsNumber, IsReadable, IsTake}
use Rattle.cmd_report_reader.specs.Reading.{report_reading}
use Rattle.cmd_schedule.proofs.Lists.{all_map, each_among}
use Rattle.cmd_schedule.proofs.Prefixes.{right_steps}
use Rattle.cmd_schedule.proofs.StandingSteps.{steps_stand}
use Rattle.cmd_schedule.specs.Contents.{accounts_of, devices_of, home_of}
use Rattle.cmd_schedule.specs.Grammar.{IsDirectSchedule, is_name, may_keep}
use Rattle.cmd_schedule.specs.Schedules.{ScheduleView, keep_of, steps_of}
use Rattle.cmd_schedule.specs.declared.schedule.Step.{Step}
use Rattle.cmd_schedule.specs.declared.schedule.TheConstants.{MOST_KEPT}
use Rattle.cmd_schedule.specs.declared.schedule.Version.{Version}
use Rattle.cmd_schedule.specs.declared.schedule.Version.TheVariants.{One, Two}

-- ---- takes

told_right : (version : Version) (moment : ℕ) → moment < 2 ^ 64 → (is_some (reported_moment version moment) ≡ tells_moments version) × IfSome (reported_moment version moment) IsNumber
told_right One moment low = (refl, tt)
told_right (Two keep) moment low = (refl, low)

pub take_right : (version : Version) (take : Take) → IsTaken take → IsTake version (take_line version take)
take_right version take is =
    let told = told_right version take.moment is.moment in
    record {
      device = visible_field take.device (name_visible take.device is.device);
      epoch = is.epoch;
      n = is.n;
      account = visible_field take.to (name_visible take.to is.to);
      told = told.0;
      moment = told.1;
    }

-- ---- accounts

pub all_drop : {A : Type 0} (P : A → Type 0) (k : ℕ) (xs : List A) → AllByRecursion P xs → AllByRecursion P (drop k xs)
all_drop P zero xs all = all
all_drop P (suc k) [] all = tt
all_drop P (suc k) (x ∷ xs) all = all_drop P k xs all.1

abbrev pub line_with : ℕ → List ℕ → List EntryView → AccountView
line_with keep name history = record { name = name; count = length (newest keep history); last = length history; entries = map entry_line (newest keep history) }

last_right : (version : Version) (history : List EntryView) → length history ≤ 4294967295 → IsLast version (length (newest (keep_of version) history)) (length history)
last_right One history few = omega (arith, few, length-drop (length history - MOST_KEPT) history)
last_right (Two keep) history few = omega (arith, few)

-- the line of an account with this history
pub history_right : (version : Version) (name : List ℕ) (history : List EntryView) → is_name name ≡ true → length history ≤ 4294967295 → AllByRecursion IsLined history →
    IsAccount version (line_with (keep_of version) name history)
history_right version name history named few lined =
    let newer : AllByRecursion IsLined (newest (keep_of version) history) = all_drop IsLined (length history - keep_of version) history lined in
    record {
      name = visible_field name (name_visible name named);
      count = omega (arith, few, length-drop (length history - keep_of version) history);
      last = last_right version history few;
      entries = all_map IsEntry entry_line (newest (keep_of version) history) newer;
    }

account_right : (version : Version) (all : List Step) (name : List ℕ) → IsKnown all → is_name name ≡ true → IsAccount version (account_line (keep_of version) all name)
account_right version all name is named =
    let few : length (archive_of name (takes_of all all)) ≤ 4294967295 = omega (arith, archive_few name (takes_of all all), takes_few all all, is.right.few) in
    history_right version name (archive_of name (takes_of all all)) named few (archive_lined name (takes_of all all) (takes_right all is))

-- ---- devices

device_of_turns : (keep : ℕ) (all : List Step) (name : List ℕ) → IsKnown all → is_name name ≡ true → is_among name (devices_of all) ≡ true → (paged : ArePaged keep all name all) →
    IsDevice (device_with all name (pages_at keep all name paged.turns))
device_of_turns keep all name is named among paged =
    let home = home_named all name is among in
    let few : length (history_at all name) ≤ 100000 = history_few all name is.right.few in
    record {
      name = visible_field name (name_visible name named);
      account = visible_field (home_of all name) (name_visible (home_of all name) home);
      epoch = omega arith;
      said = said_right all name is;
      refused = tt;
      pages = pages_right keep 0 0 (length (history_at all name)) (history_at all name) paged.turns (omega (arith, few)) (omega (arith, few)) paged.rise;
      underway = tt;
      logged = logged_right keep (history_at all name) paged.turns (archive_lined (home_of all name) (takes_of all all) (takes_right all is));
      held = tt;
    }

device_right : (keep : ℕ) (all : List Step) (name : List ℕ) → 1 ≤ keep → IsKnown all → is_name name ≡ true → is_among name (devices_of all) ≡ true → IsDevice (device_line keep all name)
device_right keep all name some is named among =
    let paged = paged_at keep all name all [] (append-nil all) is.stand is.right.few some in
    subst (λ pages. IsDevice (device_with all name pages)) (sym paged.are) (device_of_turns keep all name is named among paged)

steps_readable : (version : Version) (all : List Step) → IsTrue (may_keep version) → IsKnown all → IsReadable (report_by version all)
steps_readable version all keeps is =
    let some = keeps_some version keeps in
    let named = both IsNamed (λ name. is_among name (devices_of all) ≡ true) (devices_of all) is.devices (each_among (devices_of all)) in
    record {
      keeps = keeps;
      takes = all_map (IsTake version) (take_line version) (takes_of all all)
          (AllByRecursion-weaker IsTaken (λ t. IsTake version (take_line version t)) (take_right version) (takes_of all all) (takes_right all is));
      accounts = all_map (IsAccount version) (account_line (keep_of version) all) (accounts_of all)
          (AllByRecursion-weaker IsNamed (λ name. IsAccount version (account_line (keep_of version) all name)) (λ name n. account_right version all name is n) (accounts_of all) is.accounts);
      conns = tt;
      devices = all_map IsDevice (device_line (keep_of version) all) (devices_of all)
          (AllByRecursion-weaker (λ name. IsNamed name × (is_among name (devices_of all) ≡ true)) (λ name. IsDevice (device_line (keep_of version) all name))
          (λ name n. device_right (keep_of version) all name some is n.0 n.1) (devices_of all) named);
    }

pub direct_readable : (schedule : ScheduleView) → IsDirectSchedule schedule → IsReadable (direct_report schedule)
unfolding direct_report
direct_readable schedule is =
    steps_readable schedule.version (steps_of schedule.lines) is.keeps
    (known (steps_of schedule.lines) (right_steps schedule.lines is.lines) (steps_stand [] 2 schedule.lines is.lines))

pub direct_read_back : (schedule : ScheduleView) → IsDirectSchedule schedule → report_reading (text_of (direct_report schedule)) ≡ Ok (direct_report schedule)
direct_read_back schedule is = report_again (direct_report schedule) (direct_readable schedule is)

pub direct_told_apart : (one other : ScheduleView) → IsDirectSchedule one → IsDirectSchedule other → text_of (direct_report one) ≡ text_of (direct_report other) →
    direct_report one ≡ direct_report other
direct_told_apart one other a b same = apart_of (direct_report one) (direct_report other) (direct_readable one a) (direct_readable other b) same
