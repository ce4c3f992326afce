-- The five laws that a report of version 1 keeps, whatever came between the devices and the server. They speak of
-- takes, submissions, archives, logs and pages, and of no connection and no run. What the archives and logs were at each
-- moment is given to them as a list of worlds: the history of whichever run the report is of.
use Rattle.std.specs.Prelude.{◌≡◌, ◌≢◌, ℕ, ◌+◌, ◌<◌, ◌≤◌, ◌==◌, Bool, false, ◌&&◌, ◌⊎◌, List, [], ◌∷◌, ◌++◌, Option, Some, None, IsTrue, IfSome, is_some, length, map, filter, take, drop, count_by, slice_get, if◌then◌else◌}
use Rattle.std.specs.Bool.{MatchBool}
use Rattle.std.specs.List.{flat_map, list_any, AllByRecursion}
use Rattle.std.specs.List.Sorted.{IsNonDecreasing}
use Rattle.std.specs.Str.{bytes_eq}
use Rattle.cmd_report.specs.Takes.{Take, archive_of}
use Rattle.cmd_report.specs.Lines.{entry_line}
use Rattle.cmd_schedule.specs.Contents.{accounts_of, is_account, is_catchup_of, owned_in}
use Rattle.base_io.specs.Names.{is_among}
use Rattle.cmd_report.specs.Worlds.{ReportWorld}
use Rattle.cmd_report.specs.Reports.{AccountView, DeviceView, ReportView}
use Rattle.cmd_schedule.specs.Schedules.{ScheduleView, steps_of}
use Rattle.cmd_report.specs.EntryLines.{EntryLineView}
use Rattle.cmd_report.specs.declared.report.LoggedLine.{LoggedLine}
use Rattle.cmd_report.specs.declared.report.PageLine.{PageLine}
use Rattle.cmd_report.specs.declared.report.RefusedLine.{RefusedLine}
use Rattle.cmd_report.specs.declared.report.SaidLine.{SaidLine}
use Rattle.cmd_report.specs.declared.report.SaidMark.TheVariants.{Acknowledged, Waiting}
use Rattle.cmd_report.specs.declared.report.TakeLine.{TakeLine}
use Rattle.cmd_schedule.specs.declared.schedule.Line.{Line}
use Rattle.cmd_schedule.specs.declared.schedule.Step.{Step}
use Rattle.cmd_schedule.specs.declared.schedule.Step.TheVariants.{Say, Private, Catchup}

-- What a report says.

-- each pair of an element and a later one
abbrev pub EachPair : {A : Type 0} → (A → A → Type 0) → List A → Type 0
EachPair R [] = Unit {0}
EachPair R (x ∷ xs) = AllByRecursion (R x) xs × EachPair R xs

abbrev pub device_named : List ℕ → List DeviceView → Option DeviceView
device_named name [] = None
device_named name (device ∷ devices) = if bytes_eq name device.name then Some device else device_named name devices

abbrev pub account_named : List ℕ → List AccountView → Option AccountView
account_named name [] = None
account_named name (account ∷ accounts) = if bytes_eq name account.name then Some account else account_named name accounts

-- the submission of an epoch with a number
abbrev pub submission : ℕ → ℕ → List SaidLine → Option SaidLine
submission epoch n [] = None
submission epoch n (said ∷ rest) = if said.epoch == epoch && said.n == n then Some said else submission epoch n rest

-- the submission was taken
abbrev pub is_taken : List TakeLine → List ℕ → SaidLine → Bool
is_taken takes device said = list_any (λ t. bytes_eq device t.device && t.epoch == said.epoch && t.n == said.n) takes

-- The report has a line for each account and each device of the schedule, in declared order, and counts its entries.
-- A direct run has no connections.
-- Each law says so first: none is kept by a report that lacks such lines.
pub record IsOfSchedule (schedule : ScheduleView) (report : ReportView) : Type 0 where
  pub mode : report.wire ≡ schedule.wire
  pub accounts : map (λ a. a.name) report.accounts ≡ accounts_of (steps_of schedule.lines)
  pub devices : map (λ d. record { device = d.name; account = d.account }) report.devices ≡ owned_in (steps_of schedule.lines)
  pub counts : AllByRecursion (λ a. a.count ≡ length a.entries) report.accounts
  pub conns : schedule.wire ≡ false → report.conns ≡ []

-- Law 1: what the archives hold is what was taken.

-- the submission that a take line names, with its account and its text as the report has them
abbrev pub text_named : Option SaidLine → List ℕ
text_named None = []
text_named (Some said) = said.text

abbrev pub take_named : TakeLine → Option DeviceView → Take
take_named line None = record { device = line.device; account = []; epoch = line.epoch; n = line.n; to = line.account; text = []; moment = 0 }
take_named line (Some device) = record {
  device = line.device;
  account = device.account;
  epoch = line.epoch;
  n = line.n;
  to = line.account;
  text = text_named (submission line.epoch line.n device.said);
  moment = 0;
}

abbrev pub takes_in : ReportView → List Take
takes_in report = map (λ line. take_named line (device_named line.device report.devices)) report.takes

-- the entry, whenever it was taken
abbrev pub at_any_time : EntryLineView → EntryLineView
at_any_time entry = record entry { stamp = 0 }

-- there is the submission, and it is to this account
abbrev pub IsSubmittedTo : List ℕ → Option SaidLine → Type 0
IsSubmittedTo account None = ⊥
IsSubmittedTo account (Some said) = said.to ≡ account

-- a take is of a submission of its device, to the account that it names
abbrev pub IsOfSubmission : TakeLine → Option DeviceView → Type 0
IsOfSubmission line None = ⊥
IsOfSubmission line (Some device) = IsSubmittedTo line.account (submission line.epoch line.n device.said)

-- within an epoch the submissions are numbered 1, 2, 3 and so on, and epochs rise
abbrev pub FollowsSubmission : SaidLine → SaidLine → Type 0
FollowsSubmission before said =
    ((said.epoch ≡ before.epoch) × (said.n ≡ before.n + 1)) ⊎ ((before.epoch < said.epoch) × (said.n ≡ 1))

abbrev pub AreNumberedAfter : SaidLine → List SaidLine → Type 0
AreNumberedAfter before [] = Unit {0}
AreNumberedAfter before (said ∷ rest) = FollowsSubmission before said × AreNumberedAfter said rest

abbrev pub AreSubmissions : List SaidLine → Type 0
AreSubmissions [] = Unit {0}
AreSubmissions (said ∷ rest) = (said.n ≡ 1) × AreNumberedAfter said rest

-- the first of the submissions is this message, and the others are so
abbrev pub BeginsSaid : List ℕ → List ℕ → (List SaidLine → Type 0) → List SaidLine → Type 0
BeginsSaid to text Others [] = ⊥
BeginsSaid to text Others (said ∷ others) = (said.to ≡ to) × (said.text ≡ text) × Others others

-- the first of the refused lines is the line with this number, and the others are so
abbrev pub BeginsRefused : ℕ → (List RefusedLine → Type 0) → List RefusedLine → Type 0
BeginsRefused number Others [] = ⊥
BeginsRefused number Others (refused ∷ others) = (refused.line ≡ number) × Others others

-- What became of a line, with what became of the lines behind it: a message that it asks the device to send is a
-- submission or was refused, and a catch-up may be refused.
abbrev pub IsOutcome : List ℕ → Step → ℕ → (List SaidLine → List RefusedLine → Type 0) → List SaidLine → List RefusedLine → Type 0
IsOutcome device (Say name to text) number Behind said refused =
    MatchBool (bytes_eq device name)
    (BeginsSaid to text (λ others. Behind others refused) said ⊎ BeginsRefused number (Behind said) refused)
    (Behind said refused)
IsOutcome device (Private name to text) number Behind said refused =
    MatchBool (bytes_eq device name)
    (BeginsSaid to text (λ others. Behind others refused) said ⊎ BeginsRefused number (Behind said) refused)
    (Behind said refused)
IsOutcome device (Catchup name most) number Behind said refused =
    MatchBool (bytes_eq device name) (Behind said refused ⊎ BeginsRefused number (Behind said) refused) (Behind said refused)
IsOutcome device _ number Behind said refused = Behind said refused

-- the device's submissions and refused lines are, in order, what became of the lines that ask it
abbrev pub AreOutcomes : List ℕ → List Line → List SaidLine → List RefusedLine → Type 0
AreOutcomes device [] said refused = (said ≡ []) × (refused ≡ [])
AreOutcomes device (line ∷ lines) said refused = IsOutcome device line.step line.number (AreOutcomes device lines) said refused

-- entries of one take, in two archives or in one, have one stamp
abbrev pub AgreeOnStamp : EntryLineView → EntryLineView → Type 0
AgreeOnStamp a b = a.from ≡ b.from → a.origin ≡ b.origin → a.stamp ≡ b.stamp

pub record IsTakenRight (schedule : ScheduleView) (report : ReportView) : Type 0 where
  pub whole : IsOfSchedule schedule report
  -- numbers, addresses, origin ids and texts of the archives are those of the takes, in their order
  pub archives : AllByRecursion
      (λ a. map at_any_time a.entries ≡ map (λ e. at_any_time (entry_line e)) (archive_of a.name (takes_in report)))
      report.accounts
  -- along an archive the stamps don't fall
  pub stamps : AllByRecursion (λ a. IsNonDecreasing (map (λ e. e.stamp) a.entries)) report.accounts
  pub one_stamp : EachPair AgreeOnStamp (flat_map (λ a. a.entries) report.accounts)
  pub submitted : AllByRecursion (λ line. IsOfSubmission line (device_named line.device report.devices)) report.takes
  pub exist : AllByRecursion (λ line. IsTrue (is_account schedule line.account)) report.takes
  pub numbered : AllByRecursion (λ d. AreSubmissions d.said) report.devices
  -- each is of the device's present epoch or of one before it
  pub epochs : AllByRecursion (λ d. AllByRecursion (λ said. (1 ≤ said.epoch) × (said.epoch ≤ d.epoch)) d.said) report.devices
  -- each message of the schedule is one submission or one refused line
  pub said : AllByRecursion (λ d. AreOutcomes d.name schedule.lines d.said d.refused) report.devices

-- Law 2: each message is taken at most once, and in order.

abbrev pub Precedes : TakeLine → TakeLine → Type 0
Precedes a b = (a.epoch < b.epoch) ⊎ ((a.epoch ≡ b.epoch) × (a.n < b.n))

-- Of two submissions of an epoch, the first to an account that exists: the second wasn't taken without the first.
abbrev pub IsTakenFirst : ScheduleView → List TakeLine → List ℕ → SaidLine → SaidLine → Type 0
IsTakenFirst schedule takes device first second =
    first.epoch ≡ second.epoch → IsTrue (is_account schedule first.to) → IsTrue (is_taken takes device second) → IsTrue (is_taken takes device first)

pub record IsOnceInOrder (schedule : ScheduleView) (report : ReportView) : Type 0 where
  pub whole : IsOfSchedule schedule report
  -- the takes of a device rise, so that none comes twice
  pub rise : AllByRecursion (λ d. EachPair Precedes (filter (λ t. bytes_eq d.name t.device) report.takes)) report.devices
  pub gapless : AllByRecursion (λ d. EachPair (IsTakenFirst schedule report.takes d.name) d.said) report.devices

-- Law 3: what was acknowledged and is to an account that exists was taken, and of a settled device nothing is
-- outstanding.

abbrev pub IsAcknowledgedFirst : SaidLine → SaidLine → Type 0
IsAcknowledgedFirst first second = first.epoch ≡ second.epoch → second.state ≡ Acknowledged → first.state ≡ Acknowledged

pub record IsSettledRight (device : DeviceView) : Type 0 where
  pub nothing_waits : AllByRecursion (λ said. said.state ≢ Waiting) device.said
  pub nothing_underway : device.underway ≡ []
  pub present_epoch : AllByRecursion (λ said. said.epoch ≡ device.epoch → said.state ≡ Acknowledged) device.said

-- nothing came between the device and the server: it is settled in its first epoch, refused nothing and holds nothing
pub record IsUndisturbed (device : DeviceView) : Type 0 where
  pub settled : IsTrue device.settled
  pub epoch : device.epoch ≡ 1
  pub nothing_refused : device.refused ≡ []
  pub nothing_held : device.held ≡ []

pub record IsAcknowledgedRight (schedule : ScheduleView) (report : ReportView) : Type 0 where
  pub whole : IsOfSchedule schedule report
  pub taken : AllByRecursion
      (λ d. AllByRecursion
      (λ said. said.state ≡ Acknowledged → IsTrue (is_account schedule said.to) → IsTrue (is_taken report.takes d.name said))
      d.said)
      report.devices
  pub first : AllByRecursion (λ d. EachPair IsAcknowledgedFirst d.said) report.devices
  pub settled : AllByRecursion (λ d. IsTrue d.settled → IsSettledRight d) report.devices
  pub direct : schedule.wire ≡ false → AllByRecursion IsUndisturbed report.devices

-- Law 4: each log is a prefix of its account's archive.

-- the device's log and its held messages, beside its account's archive
pub record IsPrefixOf (archive : List EntryLineView) (device : DeviceView) : Type 0 where
  pub short : length device.logged ≤ length archive
  pub logged : map (λ l. l.entry) device.logged ≡ take (length device.logged) archive
  pub apart : EachPair (λ a b. a.id ≢ b.id) device.held
  -- what is held stands behind the log's last entry
  pub held : AllByRecursion (λ h. IsTrue (is_among h.id (map (λ e. e.id) (drop (length device.logged) archive)))) device.held

abbrev pub IsPrefixOfAccount : DeviceView → Option AccountView → Type 0
IsPrefixOfAccount device None = ⊥
IsPrefixOfAccount device (Some account) = IsPrefixOf account.entries device

pub record IsLogged (schedule : ScheduleView) (report : ReportView) : Type 0 where
  pub whole : IsOfSchedule schedule report
  pub prefix : AllByRecursion (λ d. IsPrefixOfAccount d (account_named d.account report.accounts)) report.devices

-- Law 5: pages.

abbrev pub last_logged : List LoggedLine → Option (List ℕ)
last_logged [] = None
last_logged (e ∷ []) = Some e.entry.id
last_logged (e ∷ f ∷ es) = last_logged (f ∷ es)

-- Behind what was logged before, the pages cut what is left of the log: each was asked for behind the last entry
-- before it, one that isn't complete has an entry, and of a complete one TOTAL is how many were logged with it.
abbrev pub AreTiles : List LoggedLine → List PageLine → List LoggedLine → Type 0
AreTiles before [] rest = rest ≡ []
AreTiles before (page ∷ pages) rest =
    (page.after ≡ last_logged before)
    × (page.count ≤ length rest)
    × (page.total ≡ None → 0 < page.count)
    × IfSome page.total (λ total. total ≡ length before + page.count)
    × AreTiles (before ++ take page.count rest) pages (drop page.count rest)

-- the move from one world to the next brings a count past k
abbrev pub Passes : ℕ → ℕ → ℕ → Type 0
Passes k before after = (before ≤ k) × (k < after)

-- Page k of the device is complete with a TOTAL: it is no less than the archive's length when the page was asked
-- for, and no more than its length when the page had been taken over.
abbrev pub IsFresh : List ReportWorld → DeviceView → ℕ → ℕ → Type 0
IsFresh worlds device k total =
    (i j : ℕ) (asking asked taking taken : ReportWorld)
    → slice_get worlds i ≡ Some asking → slice_get worlds (i + 1) ≡ Some asked
    → Passes k (asking.asked device.name) (asked.asked device.name)
    → slice_get worlds j ≡ Some taking → slice_get worlds (j + 1) ≡ Some taken
    → Passes k (length (taking.pages device.name)) (length (taken.pages device.name))
    → (length (asking.archive device.account) ≤ total) × (total ≤ length (taken.archive device.account))

-- the last world has as many pages of the device as the report
abbrev pub EndsWith : List ReportWorld → DeviceView → Type 0
EndsWith [] device = ⊥
EndsWith (world ∷ []) device = length (world.pages device.name) ≡ length device.pages
EndsWith (world ∷ next ∷ worlds) device = EndsWith (next ∷ worlds) device

pub record ArePages (worlds : List ReportWorld) (schedule : ScheduleView) (device : DeviceView) : Type 0 where
  pub tiles : AreTiles [] device.pages device.logged
  pub distinct : EachPair (λ a b. a.entry.id ≢ b.entry.id) device.logged
  pub fresh : (k total : ℕ) (page : PageLine) → slice_get device.pages k ≡ Some page → page.total ≡ Some total → IsFresh worlds device k total
  pub last : EndsWith worlds device
  -- in a direct run each catch-up came to a complete page
  pub answered : schedule.wire ≡ false → count_by (λ page. is_some page.total) device.pages ≡ count_by (is_catchup_of device.name) (steps_of schedule.lines)

pub record IsPaged (worlds : List ReportWorld) (schedule : ScheduleView) (report : ReportView) : Type 0 where
  pub whole : IsOfSchedule schedule report
  pub pages : AllByRecursion (ArePages worlds schedule) report.devices

-- the report keeps all five laws, where these were the worlds before the first move and after each move
pub record IsLawful (worlds : List ReportWorld) (schedule : ScheduleView) (report : ReportView) : Type 0 where
  pub taken : IsTakenRight schedule report
  pub in_order : IsOnceInOrder schedule report
  pub acknowledged : IsAcknowledgedRight schedule report
  pub logged : IsLogged schedule report
  pub paged : IsPaged worlds schedule report
