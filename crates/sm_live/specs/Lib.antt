pub use Rattle.base_io.specs.Listed
pub use Rattle.sm_acks.specs.Counters
pub use Rattle.sm_acks.specs.Queues
pub use Rattle.sm_resumption.specs.Rows
pub mod Sessions
pub mod Rule
pub mod Kept
pub mod Directions
