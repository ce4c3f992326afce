pub use Rattle.base_io.specs.Listed
pub use Rattle.mam_archive.specs.Entries
-- ---- what a log is, which the public clauses cite
pub mod LogPages
pub mod Views
pub mod Breaks
pub mod LogCalls
pub mod Tilings
-- ---- what the private code keeps beside the entries
pub mod Orders
pub mod HeldIds
