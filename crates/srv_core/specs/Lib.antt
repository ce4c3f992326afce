pub use Rattle.base_io.specs.Listed
-- ---- what a session says, and the phase behind a login
pub mod Stanzas
pub mod Ready
-- ---- the table
pub mod Table
-- ---- events
pub mod Events
pub mod Configs
pub mod Restarts
-- ---- what took effect of a piece
pub mod Taken
-- ---- law
pub mod Telling
