pub use Rattle.cmd_resolving.specs.Expansion
pub use Rattle.cmd_schedule.specs.WireReading
pub use Rattle.cl_intents.specs.Intents
pub use Rattle.cmd_intents.specs.Files
pub use Rattle.cmd_world.specs.Worlds
pub use Rattle.cmd_world.specs.WorldReports
-- The same by single looks and by turns, as it is run.
pub mod Looks
pub mod Turns
pub mod Starts
-- View: what is written of it.
pub mod Texts
pub mod Answers
