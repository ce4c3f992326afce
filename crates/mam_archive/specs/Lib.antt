pub use Rattle.base_io.specs.Listed
-- ---- what an archive is, which its public clauses cite
pub mod Entries
pub mod Ids
pub mod Peers
-- ---- what the private code keeps beside the entries
pub mod Chained
pub mod Rooms
