pub use Rattle.base_io.specs.Names
pub use Rattle.mam_archive.specs.Entries
pub use Rattle.mam_archive.specs.Ids
pub use Rattle.mam_log.specs.LogPages
pub use Rattle.mam_pages.specs.PageOf
pub use Rattle.cmd_schedule.specs.Schedules
pub use Rattle.cmd_schedule.specs.Contents
pub use Rattle.cmd_schedule.specs.Grammar
pub use Rattle.cmd_report.specs.Reports
pub use Rattle.cmd_report.specs.Lawful
pub use Rattle.cmd_report.specs.LawfulRuns
-- The direct run, and the worlds that it passes.
pub mod Direct
pub mod History
-- What lemmas and the code's clauses cite.
pub mod NextPages
