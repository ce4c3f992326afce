pub use Rattle.base_io.specs.Names
pub use Rattle.mam_archive.specs.Entries
pub use Rattle.mam_archive.specs.Ids
pub use Rattle.mam_log.specs.LogPages
pub use Rattle.cmd_schedule.specs.Schedules
pub use Rattle.cmd_schedule.specs.Grammar
pub use Rattle.cmd_schedule.specs.Contents
-- What a report is, and its text.
pub mod EntryLines
pub mod Reports
pub mod ReportText
-- What was taken, and the lines of what is held.
pub mod Addresses
pub mod Takes
pub mod Lines
-- The laws.
pub mod Worlds
pub mod Lawful
pub mod LawfulRuns
