pub use Rattle.cmd_report.specs.ReportText
-- Which reports have a text that can be read.
pub mod Readable
-- What reading answers.
pub mod LineReading
pub mod SoFar
pub mod Reading
