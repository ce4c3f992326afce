pub use Rattle.sim_1_applications.specs.Kept
-- An observer of a device beside the two applications, and the tries of an intent.
pub mod Intents
