pub use Rattle.base_io.specs.Names
pub use Rattle.im_jid.specs.Forms
pub use Rattle.cmd_schedule.specs.Schedules
pub use Rattle.cmd_schedule.specs.Grammar
pub use Rattle.mam_archive.specs.Entries
pub use Rattle.cmd_report.specs.EntryLines
pub use Rattle.cmd_report.specs.ReportText
-- What accounts files and journals say, and which texts they have.
pub mod AccountsFiles
pub mod Journals
-- What reading answers.
pub mod LineReading
pub mod Reading
-- What clauses of the code cite.
pub mod Gives
pub mod Texts
