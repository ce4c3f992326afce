pub use Rattle.cmd_schedule.specs.WireReading
-- Machine: what reading a file answers.
pub mod Files
-- What clauses of the code cite.
pub mod Rewritten
