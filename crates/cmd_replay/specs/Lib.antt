pub use Rattle.base_io.specs.Listed
pub use Rattle.base_io.specs.Names
pub use Rattle.mam_archive.specs.Entries
pub use Rattle.mam_archive.specs.Ids
pub use Rattle.mam_log.specs.LogPages
pub use Rattle.mam_pages.specs.PageOf
pub use Rattle.cmd_schedule.specs.Schedules
pub use Rattle.cmd_schedule.specs.Contents
pub use Rattle.cmd_report.specs.Reports
pub use Rattle.cmd_report.specs.Lawful
pub use Rattle.cmd_direct.specs.Direct
-- What clauses of the code and lemmas cite.
pub mod Homes
pub mod Devices
pub mod Messages
pub mod ReportLines
pub mod Runs
pub mod Turns
