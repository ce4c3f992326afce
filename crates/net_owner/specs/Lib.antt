pub use Rattle.base_io.specs.Counts
pub use Rattle.net_traits.specs.Links
pub use Rattle.net_traits.specs.ToldSince
-- law
pub mod Merge
-- machine
pub mod Rule
-- view
pub mod Starts
-- law
pub mod Feeds
-- view
pub mod Acceptors
pub mod Readers
-- law
pub mod Events
pub mod Positions
pub mod Arrivals
pub mod StartedReaders
-- view
pub mod Owners
pub mod Halves
pub mod Troubles
