pub use Rattle.net_traits.specs.Links
pub use Rattle.net_traits.specs.GivenBack
pub use Rattle.net_traits.specs.Halves
pub mod Returns
-- view
pub mod ToldLinks
pub mod Fronts
