pub use Rattle.cmd_schedule.specs.WireReading
pub use Rattle.cl_intents.specs.Intents
pub use Rattle.cmd_intents.specs.Files
-- Machine: what a file stands for, which follows the worlds.
pub mod Expansion
