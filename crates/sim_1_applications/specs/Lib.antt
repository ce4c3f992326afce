pub use Rattle.cmd_report.specs.LawfulRuns
pub use Rattle.cmd_schedule.specs.Schedules
pub mod Stanzas
pub mod Devices
pub mod Answers
pub mod Events
pub mod Kept
pub mod Laws
pub mod Archives
pub mod Histories
-- How large the numbers of a run become.
pub mod Counts
-- What a state of the applications shows, and the runs of a schedule.
pub mod Reported
pub mod Runs
-- What the server answers.
pub mod Pages
-- Counts of 64 bits.
pub mod Counted
