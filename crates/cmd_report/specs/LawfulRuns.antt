-- The five laws that a report of version 2 keeps, whose archives keep their newest KEEP entries. They speak of each
-- account's history: what its archive would hold if nothing were purged from it. Laws 2 and 3 are those of version 1.
use Rattle.std.specs.Prelude.{◌≡◌, ◌≢◌, ℕ, ◌+◌, ◌<◌, ◌≤◌, min, Bool, true, false, ◌&&◌, not, ◌⊎◌, List, [], ◌∷◌, ◌++◌, Option, Some, None, IsTrue, is_some, length, map, take, drop, sum, count_by, slice_get}
use Rattle.std.specs.Option.{option_map_or}
use Rattle.std.specs.List.{AllByRecursion}
use Rattle.std.specs.List.Sorted.{IsNonDecreasing}
use Rattle.mam_archive.specs.Entries.{EntryView, entry_numbered, newest}
use Rattle.mam_archive.specs.Ids.{id_of}
use Rattle.mam_archive.specs.declared.archive.TheConstants.{GREATEST_NUMBER}
use Rattle.base_io.specs.Names.{is_among}
use Rattle.mam_pages.specs.Kept.{first_number, last_number}
use Rattle.cmd_report.specs.Lawful.{AreOutcomes, AreSubmissions, EachPair, EndsWith, IsAcknowledgedRight, IsLawful, IsOfSchedule, IsOfSubmission, IsOnceInOrder, Passes, device_named, last_logged, take_named}
use Rattle.cmd_report.specs.Lines.{entry_line, is_break}
use Rattle.cmd_report.specs.Reports.{AccountView, DeviceView, ReportView}
use Rattle.cmd_report.specs.Takes.{Take, archive_of}
use Rattle.cmd_report.specs.Worlds.{ReportWorld}
use Rattle.cmd_report.specs.declared.report.LoggedLine.{LoggedLine}
use Rattle.cmd_report.specs.declared.report.PageLine.{PageLine}
use Rattle.cmd_report.specs.declared.report.TakeLine.{TakeLine}
use Rattle.cmd_schedule.specs.Contents.{is_account, is_catchup_of}
use Rattle.cmd_schedule.specs.Schedules.{ScheduleView, steps_of}
use Rattle.cmd_schedule.specs.declared.schedule.Version.{Version}
use Rattle.cmd_schedule.specs.declared.schedule.Version.TheVariants.{One, Two}

-- What the lines say.

abbrev pub moment_of : TakeLine → ℕ
moment_of line = option_map_or (λ moment. moment) line.moment 0

-- the take that a line names, with its moment
abbrev pub timed_take : ReportView → TakeLine → Take
timed_take report line = record (take_named line (device_named line.device report.devices)) { moment = moment_of line }

-- what an account's archive would hold if nothing were purged
abbrev pub history_of : ReportView → List ℕ → List EntryView
history_of report account = archive_of account (map (timed_take report) report.takes)

abbrev pub tells_moments : Version → Bool
tells_moments One = false
tells_moments (Two keep) = true

-- the report has the form of its version: version 1 tells no moments and no breaks, and of an archive its count alone
pub record IsInForm (version : Version) (report : ReportView) : Type 0 where
  pub is : report.version ≡ version
  pub moments : AllByRecursion (λ line. is_some line.moment ≡ tells_moments version) report.takes
  pub lasts : tells_moments version ≡ false → AllByRecursion (λ a. a.last ≡ a.count) report.accounts
  pub unbroken : tells_moments version ≡ false → AllByRecursion (λ d. AllByRecursion (λ l. l.broken ≡ false) d.logged) report.devices

-- Law 1: what the archives keep is the newest of what was taken.

-- the archive keeps its newest entries, and gave as many numbers as there are entries in its history
pub record IsNewestOf (keep : ℕ) (history : List EntryView) (account : AccountView) : Type 0 where
  pub entries : account.entries ≡ map entry_line (newest keep history)
  pub last : account.last ≡ length history

pub record IsTakenAndKept (keep : ℕ) (schedule : ScheduleView) (report : ReportView) : Type 0 where
  pub whole : IsOfSchedule schedule report
  -- numbers, stamps, addresses, origin ids and texts of the archives
  pub archives : AllByRecursion (λ a. IsNewestOf keep (history_of report a.name) a) report.accounts
  pub moments : IsNonDecreasing (map moment_of report.takes)
  pub submitted : AllByRecursion (λ line. IsOfSubmission line (device_named line.device report.devices)) report.takes
  pub exist : AllByRecursion (λ line. IsTrue (is_account schedule line.account)) report.takes
  pub numbered : AllByRecursion (λ d. AreSubmissions d.said) report.devices
  pub epochs : AllByRecursion (λ d. AllByRecursion (λ said. (1 ≤ said.epoch) × (said.epoch ≤ d.epoch)) d.said) report.devices
  pub said : AllByRecursion (λ d. AreOutcomes d.name schedule.lines d.said d.refused) report.devices

-- Law 4: each log is runs of its account's history, broken only where entries were purged.

-- behind an entry, numbers rise, and without a break they are consecutive
abbrev pub AreRunsAfter : EntryView → List EntryView → List LoggedLine → Type 0
AreRunsAfter before [] [] = Unit {0}
AreRunsAfter before (e ∷ es) (l ∷ ls) =
    (before.number < e.number) × (l.broken ≡ false → e.number ≡ before.number + 1) × AreRunsAfter e es ls
AreRunsAfter before [] (l ∷ ls) = ⊥
AreRunsAfter before (e ∷ es) [] = ⊥

abbrev pub AreRuns : List EntryView → List LoggedLine → Type 0
AreRuns [] [] = Unit {0}
AreRuns (e ∷ es) (l ∷ ls) = (l.broken ≡ false) × AreRunsAfter e es ls
AreRuns [] (l ∷ ls) = ⊥
AreRuns (e ∷ es) [] = ⊥

abbrev pub ids_logged : List LoggedLine → List (List ℕ)
ids_logged logged = map (λ l. l.entry.id) logged

-- the device's log and its held messages, beside its account's history
pub record IsRunsOf (keep : ℕ) (history : List EntryView) (device : DeviceView) : Type 0 where
  -- the entries of the history that the lines are
  pub entries : List EntryView
  pub lines : map (λ l. l.entry) device.logged ≡ map entry_line entries
  pub each : AllByRecursion (λ e. entry_numbered e.number history ≡ Some e) entries
  pub runs : AreRuns entries device.logged
  -- what the archive keeps, up to the last entry logged, is logged
  pub kept : AllByRecursion (λ e. e.number ≤ last_number entries → IsTrue (is_among (id_of e.number) (ids_logged device.logged))) (newest keep history)
  pub apart : EachPair (λ a b. a.id ≢ b.id) device.held
  -- what is held is of the history and isn't logged
  pub held : AllByRecursion (λ h. IsTrue (is_among h.id (map (λ e. id_of e.number) history) && not (is_among h.id (ids_logged device.logged)))) device.held

pub record IsLoggedInRuns (keep : ℕ) (schedule : ScheduleView) (report : ReportView) : Type 0 where
  pub whole : IsOfSchedule schedule report
  pub runs : AllByRecursion (λ d. IsRunsOf keep (history_of report d.account) d) report.devices

-- Law 5: pages.

-- of a page's lines the first alone may stand behind a break
abbrev pub BeginsRun : Bool → List LoggedLine → Type 0
BeginsRun broken [] = Unit {0}
BeginsRun broken (l ∷ ls) = (l.broken ≡ broken) × AllByRecursion (λ m. m.broken ≡ false) ls

-- Behind what was logged before, the pages cut what is left of the log: each was asked for behind the last entry
-- before it, or without an id, and one that isn't complete has an entry. So has one that was asked for without an id
-- while something was logged: before its first entry stands a break, and nowhere else.
abbrev pub AreTilesOfRuns : List LoggedLine → List PageLine → List LoggedLine → Type 0
AreTilesOfRuns before [] rest = rest ≡ []
AreTilesOfRuns before (page ∷ pages) rest =
    ((page.after ≡ None) ⊎ (page.after ≡ last_logged before))
    × (page.count ≤ length rest)
    × (page.total ≡ None → 0 < page.count)
    × (IsTrue (is_break (length before) page.after) → 0 < page.count)
    × BeginsRun (is_break (length before) page.after) (take page.count rest)
    × AreTilesOfRuns (before ++ take page.count rest) pages (drop page.count rest)

-- the number of the entry with the last id, or 0 where there is none
abbrev pub IsLastNumber : Option (List ℕ) → ℕ → Type 0
IsLastNumber None n = n ≡ 0
IsLastNumber (Some id) n = (1 ≤ n) × (n ≤ GREATEST_NUMBER) × (id ≡ id_of n)

-- what was logged before page k
abbrev pub logged_before : ℕ → DeviceView → List LoggedLine
logged_before k device = take (sum (map (λ page. page.count) (take k device.pages))) device.logged

-- the lines of page k
abbrev pub lines_of_page : ℕ → DeviceView → List LoggedLine
lines_of_page k device = drop (length (logged_before k device)) (logged_before (k + 1) device)

-- the number of the first of these lines
abbrev pub IsFirstNumber : List LoggedLine → ℕ → Type 0
IsFirstNumber [] n = ⊥
IsFirstNumber (l ∷ ls) n = (1 ≤ n) × (n ≤ GREATEST_NUMBER) × (l.entry.id ≡ id_of n)

-- after a complete page the log ends with all that the archive kept: as many entries as TOTAL says, up to the last one
pub record EndsWhole (keep : ℕ) (history : List EntryView) (logged : List LoggedLine) (total : ℕ) : Type 0 where
  pub last : ℕ
  pub number : IsLastNumber (last_logged logged) last
  pub many : total ≡ min last keep
  pub entries : map (λ l. l.entry) (newest total logged) ≡ map entry_line (newest total (take last history))

-- The last entry logged with page k is no older than the archive's last when the page was asked for, and no newer than its
-- last when the page had been taken over.
abbrev pub IsFreshTo : List ReportWorld → DeviceView → ℕ → ℕ → Type 0
IsFreshTo worlds device k last =
    (i j : ℕ) (asking asked taking taken : ReportWorld)
    → slice_get worlds i ≡ Some asking → slice_get worlds (i + 1) ≡ Some asked
    → Passes k (asking.asked device.name) (asked.asked device.name)
    → slice_get worlds j ≡ Some taking → slice_get worlds (j + 1) ≡ Some taken
    → Passes k (length (taking.pages device.name)) (length (taken.pages device.name))
    → (last_number (asking.archive device.account) ≤ last) × (last ≤ last_number (taken.archive device.account))

-- when page k had been taken over, this number was purged
abbrev pub IsPurgedBy : List ReportWorld → DeviceView → ℕ → ℕ → Type 0
IsPurgedBy worlds device k last =
    (j : ℕ) (taking taken : ReportWorld)
    → slice_get worlds j ≡ Some taking → slice_get worlds (j + 1) ≡ Some taken
    → Passes k (length (taking.pages device.name)) (length (taken.pages device.name))
    → last < first_number (taken.archive device.account)

-- Page k begins with the oldest entry that the archive kept: this number wasn't purged when the page was asked for, and
-- all below it were when the page had been taken over.
abbrev pub IsOldestKept : List ReportWorld → DeviceView → ℕ → ℕ → Type 0
IsOldestKept worlds device k first =
    (i j : ℕ) (asking asked taking taken : ReportWorld)
    → slice_get worlds i ≡ Some asking → slice_get worlds (i + 1) ≡ Some asked
    → Passes k (asking.asked device.name) (asked.asked device.name)
    → slice_get worlds j ≡ Some taking → slice_get worlds (j + 1) ≡ Some taken
    → Passes k (length (taking.pages device.name)) (length (taken.pages device.name))
    → (first_number (asking.archive device.account) ≤ first) × (first ≤ first_number (taken.archive device.account))

-- when page k was asked for, this number wasn't purged
abbrev pub IsKeptWhenAsked : List ReportWorld → DeviceView → ℕ → ℕ → Type 0
IsKeptWhenAsked worlds device k last =
    (i : ℕ) (asking asked : ReportWorld)
    → slice_get worlds i ≡ Some asking → slice_get worlds (i + 1) ≡ Some asked
    → Passes k (asking.asked device.name) (asked.asked device.name)
    → first_number (asking.archive device.account) ≤ last

-- when page k had been taken over, the archive had given this number
abbrev pub IsGivenBy : List ReportWorld → DeviceView → ℕ → ℕ → Type 0
IsGivenBy worlds device k last =
    (j : ℕ) (taking taken : ReportWorld)
    → slice_get worlds j ≡ Some taking → slice_get worlds (j + 1) ≡ Some taken
    → Passes k (length (taking.pages device.name)) (length (taken.pages device.name))
    → last ≤ last_number (taken.archive device.account)

pub record ArePagesOfRuns (keep : ℕ) (worlds : List ReportWorld) (schedule : ScheduleView) (history : List EntryView) (device : DeviceView) : Type 0 where
  pub tiles : AreTilesOfRuns [] device.pages device.logged
  pub distinct : EachPair (λ a b. a.entry.id ≢ b.entry.id) device.logged
  pub complete : (k total : ℕ) (page : PageLine) → slice_get device.pages k ≡ Some page → page.total ≡ Some total → EndsWhole keep history (logged_before (k + 1) device) total
  pub fresh : (k total last : ℕ) (page : PageLine) → slice_get device.pages k ≡ Some page → page.total ≡ Some total →
      IsLastNumber (last_logged (logged_before (k + 1) device)) last → IsFreshTo worlds device k last
  pub purged : (k last : ℕ) (page : PageLine) → slice_get device.pages k ≡ Some page → page.after ≡ None → 0 < page.count → 1 ≤ last →
      IsLastNumber (last_logged (logged_before k device)) last → IsPurgedBy worlds device k last
  -- a page that was asked for without an id begins with the oldest entry kept
  pub oldest : (k first : ℕ) (page : PageLine) → slice_get device.pages k ≡ Some page → page.after ≡ None →
      IsFirstNumber (lines_of_page k device) first → IsOldestKept worlds device k first
  -- the entry behind which a page was asked for was kept
  pub following : (k last : ℕ) (page : PageLine) → slice_get device.pages k ≡ Some page → 1 ≤ last →
      IsLastNumber page.after last → IsKeptWhenAsked worlds device k last
  -- no page, complete or not, brings an entry that wasn't taken yet
  pub known : (k last : ℕ) (page : PageLine) → slice_get device.pages k ≡ Some page →
      IsLastNumber (last_logged (logged_before (k + 1) device)) last → IsGivenBy worlds device k last
  pub last : EndsWith worlds device
  -- in a direct run each catch-up came to a complete page
  pub answered : schedule.wire ≡ false → count_by (λ page. is_some page.total) device.pages ≡ count_by (is_catchup_of device.name) (steps_of schedule.lines)

pub record IsPagedInRuns (keep : ℕ) (worlds : List ReportWorld) (schedule : ScheduleView) (report : ReportView) : Type 0 where
  pub whole : IsOfSchedule schedule report
  pub pages : AllByRecursion (λ d. ArePagesOfRuns keep worlds schedule (history_of report d.account) d) report.devices

-- the report keeps all five laws, where these were the worlds before the first move and after each move
pub record IsLawfulKeeping (keep : ℕ) (worlds : List ReportWorld) (schedule : ScheduleView) (report : ReportView) : Type 0 where
  pub taken : IsTakenAndKept keep schedule report
  pub in_order : IsOnceInOrder schedule report
  pub acknowledged : IsAcknowledgedRight schedule report
  pub logged : IsLoggedInRuns keep schedule report
  pub paged : IsPagedInRuns keep worlds schedule report

abbrev pub KeepsLawsOf : Version → List ReportWorld → ScheduleView → ReportView → Type 0
KeepsLawsOf One worlds schedule report = IsLawful worlds schedule report
KeepsLawsOf (Two keep) worlds schedule report = IsLawfulKeeping keep worlds schedule report

-- the report has the form of the schedule's version, and keeps the five laws of that version
pub record KeepsLaws (worlds : List ReportWorld) (schedule : ScheduleView) (report : ReportView) : Type 0 where
  pub form : IsInForm schedule.version report
  pub laws : KeepsLawsOf schedule.version worlds schedule report
