pub use Rattle.base_io.specs.Names
pub use Rattle.im_jid.specs.Forms
pub use Rattle.im_jid.specs.Normal
pub use Rattle.cmd_schedule.specs.Grammar
pub use Rattle.cmd_schedule.specs.Reading as Lines
pub use Rattle.cmd_report.specs.ReportText
pub use Rattle.cmd_report.specs.Lines as ReportLines
pub use Rattle.net_traits.specs.Links
pub use Rattle.cl_core.specs.Feeds
pub use Rattle.cl_core.specs.Values
-- What scripts say, and which texts say it.
pub mod Scripts
-- What reading answers.
pub mod ScriptReading
-- What clauses of the code cite.
pub mod Gives
pub mod Texts
-- How a script is done, from the pieces that are read.
pub mod Conditions
pub mod Failures
pub mod Courses
pub mod Views
-- What is known of the link, and of the dialer.
pub mod Talks
pub mod SyncReading
-- What a call of `sync` came to.
pub mod Syncs
-- What a course has done.
pub mod Outcomes
