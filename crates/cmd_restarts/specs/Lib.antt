pub use Rattle.base_io.specs.Listed
-- ---- law
pub mod RestartFiles
-- ---- machine
pub mod Files
pub mod Rewritten
