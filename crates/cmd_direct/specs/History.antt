-- The history of the direct run of a schedule: what the archives keep and the logs before its first move and after each
-- move. Each line is one move. Of a wire schedule this says nothing: its moves are others.
use Rattle.std.specs.Prelude.{ℕ, ◌∷◌, [], ◌++◌, List, length}
use Rattle.mam_archive.specs.Entries.{newest}
use Rattle.cmd_report.specs.Takes.{archive_of}
use Rattle.cmd_direct.specs.Direct.{takes_of, pages_of}
use Rattle.cmd_schedule.specs.Schedules.{ScheduleView, keep_of, steps_of}
use Rattle.cmd_schedule.specs.declared.schedule.Step.{Step}
use Rattle.cmd_report.specs.Worlds.{ReportWorld}

-- In a direct run a page that is asked for is answered within the same line.
abbrev pub world_after : ℕ → List Step → List Step → ReportWorld
world_after keep all before = record {
  archive = λ account. newest keep (archive_of account (takes_of all before));
  pages = λ device. pages_of keep all device before;
  asked = λ device. length (pages_of keep all device before);
}

abbrev pub worlds_from : ℕ → List Step → List Step → List Step → List ReportWorld
worlds_from keep all before [] = world_after keep all before ∷ []
worlds_from keep all before (step ∷ steps) = world_after keep all before ∷ worlds_from keep all (before ++ step ∷ []) steps

-- the worlds of these steps, run directly
abbrev pub worlds_of : ℕ → List Step → List ReportWorld
worlds_of keep steps = worlds_from keep steps [] steps

-- the worlds of a schedule's direct run: the first one, and the one after each move
abbrev pub direct_history : ScheduleView → List ReportWorld
direct_history schedule = worlds_of (keep_of schedule.version) (steps_of schedule.lines)
