pub use Rattle.net_traits.specs.Halves
pub use Rattle.net_queues.specs.Rule
-- law
pub mod Sent
pub mod Parcels
pub mod Takings
-- view
pub mod Writers
pub mod Lanes
