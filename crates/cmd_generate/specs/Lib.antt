pub use Rattle.cmd_schedule.specs.WireGrammar
pub use Rattle.cmd_report.specs.ReportText
-- The schedule that two numbers make.
pub mod Draws
pub mod Generated
-- What is told of its report.
pub mod Summary
