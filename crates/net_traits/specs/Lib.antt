pub use Rattle.base_io.specs.Counts
pub use Rattle.base_io.specs.Prefixes
pub mod Links
-- law
pub mod ToldSince
pub mod Opens
-- view
pub mod GivenBack
pub mod Halves
