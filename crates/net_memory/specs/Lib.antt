pub use Rattle.base_io.specs.Listed
pub use Rattle.net_traits.specs.Links
pub use Rattle.net_traits.specs.Halves
pub use Rattle.net_traits.specs.GivenBack
pub mod InMemory
pub mod Shelves
-- view
pub mod Backs
