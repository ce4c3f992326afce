pub use Rattle.cl_core.specs.Values
-- Machine: what is known of a try, and what becomes of intents.
pub mod States
-- View: what clauses see of intents, and their calls.
pub mod Intents
