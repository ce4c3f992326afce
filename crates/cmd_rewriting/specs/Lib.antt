pub use Rattle.base_io.specs.Listed
-- ---- machine
pub mod Headings
