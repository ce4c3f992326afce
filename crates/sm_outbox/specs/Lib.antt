pub use Rattle.base_io.specs.Listed
pub use Rattle.sm_acks.specs.Counters
pub use Rattle.sm_acks.specs.Delivery
pub use Rattle.sm_acks.specs.Queues
-- Law: what waits stands for the end of two directions, and the submissions that wait are in it.
pub mod Directions
-- Machine: what happens to what waits, to submissions and to a session.
pub mod Waiting
pub mod Submissions
pub mod Sessions
-- View: what clauses see of the types.
pub mod Kept
