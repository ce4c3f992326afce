pub mod Arenas
pub mod Paths
mod PoolWorked
pub mod Directions
pub mod Senders
mod AcksWorked
