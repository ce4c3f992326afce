-- What the worlds of a run have to do with its report, of either version. Law 5 speaks of the moves at which a page was asked
-- for and taken over, and of what archives were then. Here it is said that each page has such moves, and that the archives
-- are the report's; and what a report's marks say of the present session.
use Rattle.std.specs.Prelude.{◌≡◌, ◌≢◌, ℕ, ◌+◌, ◌≤◌, false, List, [], ◌∷◌, ◌++◌, Some, length, map, take, slice_get}
use Rattle.std.specs.List.{AllByRecursion}
use Rattle.mam_archive.specs.Entries.{EntryView, newest}
use Rattle.cmd_report.specs.Lawful.{Passes}
use Rattle.cmd_report.specs.LawfulRuns.{tells_moments}
use Rattle.cmd_report.specs.Lines.{entry_line}
use Rattle.cmd_report.specs.Reports.{AccountView, DeviceView, ReportView}
use Rattle.cmd_report.specs.Worlds.{ReportWorld}
use Rattle.cmd_report.specs.declared.report.SaidMark.TheVariants.{Undecided, Waiting}
use Rattle.cmd_schedule.specs.Schedules.{ScheduleView, keep_of}

-- the first world is so
abbrev pub IsFirst : (ReportWorld → Type 0) → List ReportWorld → Type 0
IsFirst P [] = ⊥
IsFirst P (w ∷ ws) = P w

-- the last world is so
abbrev pub IsLast : (ReportWorld → Type 0) → List ReportWorld → Type 0
IsLast P [] = ⊥
IsLast P (w ∷ []) = P w
IsLast P (w ∷ next ∷ ws) = IsLast P (next ∷ ws)

-- Pages.

-- no page was taken over that wasn't asked for, and one at most is under way
pub record AreAskedFirst (device : DeviceView) (w : ReportWorld) : Type 0 where
  pub asked : length (w.pages device.name) ≤ w.asked device.name
  pub one : w.asked device.name ≤ length (w.pages device.name) + 1

-- In the first world no page was asked for; in the last one those of the report were, taken over and under way.
pub record ArePagesAsked (worlds : List ReportWorld) (device : DeviceView) : Type 0 where
  pub begins : IsFirst (λ w. w.asked device.name ≡ 0) worlds
  pub each : AllByRecursion (AreAskedFirst device) worlds
  pub ends : IsLast (λ w. (length (w.pages device.name) ≡ length device.pages) × (w.asked device.name ≡ length device.pages + length device.underway)) worlds
  pub one : length device.underway ≤ 1

-- Archives.

-- each world's archive is what is kept of the first entries of a history, and these become no fewer
abbrev pub AreKeptOf : ℕ → List ℕ → List EntryView → ℕ → List ReportWorld → Type 0
AreKeptOf keep account history least [] = least ≤ length history
AreKeptOf keep account history least (w ∷ ws) =
    (n : ℕ) × (least ≤ n) × (w.archive account ≡ newest keep (take n history)) × AreKeptOf keep account history n ws

-- Of the account there is a history. The archive was empty in the first world, in each one it keeps the newest of what the
-- history was, and in the last one that is the report's archive.
pub record IsArchiveOf (keep : ℕ) (worlds : List ReportWorld) (account : AccountView) : Type 0 where
  pub history : List EntryView
  pub begins : IsFirst (λ w. w.archive account.name ≡ []) worlds
  pub each : AreKeptOf keep account.name history 0 worlds
  pub ends : IsLast (λ w. w.archive account.name ≡ newest keep history) worlds
  pub entries : account.entries ≡ map entry_line (newest keep history)
  pub last : account.last ≡ length history

-- each world's archive is the first entries of the next one's
abbrev pub AreFronts : List ℕ → List ReportWorld → Type 0
AreFronts account [] = Unit {0}
AreFronts account (w ∷ []) = Unit {0}
AreFronts account (w ∷ next ∷ ws) = ((more : List EntryView) × (next.archive account ≡ w.archive account ++ more)) × AreFronts account (next ∷ ws)

-- Marks.

-- What waits is of the present epoch, and of that nothing is undecided then.
pub record AreMarksRight (device : DeviceView) : Type 0 where
  pub present : AllByRecursion (λ said. said.state ≡ Waiting → said.epoch ≡ device.epoch) device.said
  pub one_kind : AllByRecursion
      (λ a. AllByRecursion (λ b. a.state ≡ Waiting → b.epoch ≡ device.epoch → b.state ≢ Undecided) device.said)
      device.said

-- the report is of the last of these worlds, and of what led there
pub record IsOfWorlds (worlds : List ReportWorld) (schedule : ScheduleView) (report : ReportView) : Type 0 where
  pub pages : AllByRecursion (ArePagesAsked worlds) report.devices
  pub archives : AllByRecursion (IsArchiveOf (keep_of schedule.version) worlds) report.accounts
  -- in version 1 nothing is purged
  pub fronts : tells_moments schedule.version ≡ false → AllByRecursion (λ a. AreFronts a.name worlds) report.accounts
  pub marks : AllByRecursion AreMarksRight report.devices

-- at the move behind so many worlds a count passes k
pub record HasMove (worlds : List ReportWorld) (count : ReportWorld → ℕ) (k : ℕ) : Type 0 where
  pub i : ℕ
  pub before : ReportWorld
  pub after : ReportWorld
  pub is_before : slice_get worlds i ≡ Some before
  pub is_after : slice_get worlds (i + 1) ≡ Some after
  pub passes : Passes k (count before) (count after)
