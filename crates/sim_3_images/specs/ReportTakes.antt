-- The takes of a wire schedule's report, and the archives that they make.
use Rattle.std.specs.Prelude.{◌≡◌, ℕ, ◌≤◌, ◌||◌, Bool, List, IsTrue, filter, map}
use Rattle.std.specs.List.{AllByRecursion}
use Rattle.std.specs.List.Sorted.{IsNonDecreasing}
use Rattle.std.specs.Str.{bytes_eq}
use Rattle.mam_archive.specs.Entries.{EntryView}
use Rattle.mam_archive.specs.declared.archive.TheConstants.{GREATEST_NUMBER}
use Rattle.cmd_report.specs.Addresses.{full_address}
use Rattle.cmd_report.specs.Lawful.{EachPair, IsOfSchedule}
use Rattle.cmd_report.specs.LawfulRuns.{IsNewestOf}
use Rattle.cmd_report.specs.Reports.{ReportView}
use Rattle.cmd_report.specs.Takes.{numbered_from}
use Rattle.cmd_report.specs.declared.report.TakeLine.{TakeLine}
use Rattle.cmd_schedule.specs.Contents.{is_account}
use Rattle.cmd_schedule.specs.Schedules.{ScheduleView, WireView, keep_of, seen_of}
use Rattle.cmd_schedule.specs.declared.schedule.Version.{Version}
use Rattle.cmd_network.specs.Takes.{take_reported}

-- a message that was taken: the names of the account that sent it and of the account that it is to, and its entry, but for
-- the number
pub record Taken : Type 0 where
  pub sender : List ℕ
  pub addressee : List ℕ
  pub entry : EntryView

-- ---- its line

-- the line tells the entry's moment, addresses and origin id
abbrev pub line_of : Version → Taken → TakeLine
line_of version t = take_reported version t.entry.stamp t.entry.from t.entry.to t.entry.origin

-- the message is from the line's device at its sender's address, and to the line's account
pub record IsOfLine (line : TakeLine) (t : Taken) : Type 0 where
  pub from : t.entry.from ≡ full_address t.sender line.device
  pub account : line.account ≡ t.addressee

-- it is from and to an account of the schedule
pub record IsOfAccounts (schedule : ScheduleView) (t : Taken) : Type 0 where
  pub sender : IsTrue (is_account schedule t.sender)
  pub addressee : IsTrue (is_account schedule t.addressee)

-- it was taken no later than another
abbrev pub IsNoLater : Taken → Taken → Type 0
IsNoLater t other = t.entry.stamp ≤ other.entry.stamp

-- ---- archives

-- the account sent the message, or it is to the account
abbrev pub concerns : List ℕ → Taken → Bool
concerns account t = bytes_eq account t.sender || bytes_eq account t.addressee

-- what an account's archive would hold if nothing were purged: an entry of each message that concerns it, in their order,
-- numbered 1, 2, 3 and so on
abbrev pub history_of : List ℕ → List Taken → List EntryView
history_of account takes = numbered_from 1 (map (λ (t : Taken). t.entry) (filter (concerns account) takes))

-- ---- a report

-- The take lines are those of these messages, in their order, and each archive keeps the newest of its account's history.
pub record AreOfTakes (schedule : WireView) (takes : List Taken) (report : ReportView) : Type 0 where
  pub whole : IsOfSchedule (seen_of schedule) report
  pub lines : report.takes ≡ map (line_of schedule.version) takes
  pub each : AllByRecursion (λ (t : Taken). IsOfLine (line_of schedule.version t) t) takes
  pub exist : AllByRecursion (IsOfAccounts (seen_of schedule)) takes
  pub moments : EachPair IsNoLater takes
  pub archives : AllByRecursion (λ a. IsNewestOf (keep_of schedule.version) (history_of a.name takes) a) report.accounts
  pub numbers : AllByRecursion (λ a. a.last ≤ GREATEST_NUMBER) report.accounts
  -- along an archive the stamps don't fall
  pub stamps : AllByRecursion (λ a. IsNonDecreasing (map (λ e. e.stamp) a.entries)) report.accounts

-- the archives are those of the takes: the two archives of one take have one entry, but for its number
abbrev pub HasArchivesOfTakes : WireView → ReportView → Type 0
HasArchivesOfTakes schedule report = (takes : List Taken) × AreOfTakes schedule takes report
