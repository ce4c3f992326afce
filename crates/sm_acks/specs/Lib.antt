pub use Rattle.base_io.specs.Listed
pub mod Arena
pub mod Queues
pub mod Counters
pub mod Delivery
