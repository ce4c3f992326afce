-- What the five laws leave open of a direct run: at which moments messages are taken, and how many entries a page has.
use Rattle.std.specs.Prelude.{◌≡◌, ℕ, ◌+◌, ◌≤◌, Bool, true, ◌&&◌, ◌||◌, if◌then◌else◌, List, [], ◌∷◌, ◌++◌, Some, map}
use Rattle.std.specs.Bool.{MatchBool}
use Rattle.std.specs.List.{AllByRecursion}
use Rattle.std.specs.Str.{bytes_eq}
use Rattle.base_io.specs.Names.{is_among}
use Rattle.mam_archive.specs.Entries.{newest}
use Rattle.cmd_report.specs.LawfulRuns.{tells_moments}
use Rattle.cmd_report.specs.Reports.{AccountView, DeviceView, ReportView}
use Rattle.cmd_report.specs.declared.report.PageLine.{PageLine}
use Rattle.cmd_schedule.specs.Contents.{accounts_of, home_of}
use Rattle.cmd_schedule.specs.Schedules.{ScheduleView, keep_of, steps_of}
use Rattle.cmd_schedule.specs.declared.schedule.Step.{Step}
use Rattle.cmd_schedule.specs.declared.schedule.Step.TheVariants.{Say, Private, Catchup, Tick}

-- ---- the clock

-- what the clock shows after a step: ticks alone move it on
abbrev pub clock_after : ℕ → Step → ℕ
clock_after now (Tick ms) = now + ms
clock_after now _ = now

-- what it shows, where the step is a message of which this holds: from its device, to its account
abbrev pub moment_at : (List ℕ → List ℕ → Bool) → ℕ → Step → List ℕ
moment_at is now (Say device to text) = if is device to then now ∷ [] else []
moment_at is now (Private device to text) = if is device to then now ∷ [] else []
moment_at is now _ = []

-- the moments of such messages, along steps that stand after others
abbrev pub moments_along : (List Step → List ℕ → List ℕ → Bool) → List Step → ℕ → List Step → List ℕ
moments_along is before now [] = []
moments_along is before now (step ∷ steps) = moment_at (is before) now step ++ moments_along is (before ++ step ∷ []) (clock_after now step) steps

-- some line declares the account that the message is to
abbrev pub has_addressee : List Step → List Step → List ℕ → List ℕ → Bool
has_addressee all before device to = is_among to (accounts_of all)

-- and it is from a device of this account, or to the account
abbrev pub is_with : List ℕ → List Step → List Step → List ℕ → List ℕ → Bool
is_with name all before device to = is_among to (accounts_of all) && (bytes_eq name (home_of before device) || bytes_eq name to)

-- The clock begins at 0. The moment of each take is what it shows at the message's line, and so are the stamps of an archive,
-- which keeps its newest entries.
pub record KeepsClock (schedule : ScheduleView) (report : ReportView) : Type 0 where
  pub takes : tells_moments schedule.version ≡ true
      → map (λ t. t.moment) report.takes ≡ map Some (moments_along (has_addressee (steps_of schedule.lines)) [] 0 (steps_of schedule.lines))
  pub stamps : AllByRecursion
      (λ (a : AccountView). map (λ e. e.stamp) a.entries ≡ newest (keep_of schedule.version) (moments_along (is_with a.name (steps_of schedule.lines)) [] 0 (steps_of schedule.lines)))
      report.accounts

-- ---- pages

-- the first of these pages are of one catch-up, with so many entries at most, and the others are so
pub record BeginsWithPages (most : ℕ) (Others : List PageLine → Type 0) (pages : List PageLine) : Type 0 where
  pub own : List PageLine
  pub others : List PageLine
  pub are : pages ≡ own ++ others
  pub few : AllByRecursion (λ page. page.count ≤ most) own
  pub later : Others others

-- the pages are those of the catch-ups of the device, in the order of their lines
abbrev pub AreOfCatchUps : List ℕ → List Step → List PageLine → Type 0
AreOfCatchUps name [] pages = pages ≡ []
AreOfCatchUps name (Catchup device most ∷ steps) pages =
    MatchBool (bytes_eq name device) (BeginsWithPages most (AreOfCatchUps name steps) pages) (AreOfCatchUps name steps pages)
AreOfCatchUps name (step ∷ steps) pages = AreOfCatchUps name steps pages

-- no page of a device has more entries than its catch-up asks for
abbrev pub HasFewEntries : ScheduleView → DeviceView → Type 0
HasFewEntries schedule d = AreOfCatchUps d.name (steps_of schedule.lines) d.pages
