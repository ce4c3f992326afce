pub use Rattle.base_io.specs.Listed
-- ---- what a server is, the small steps that its rows are made of, and what an element says
pub mod State
pub mod Steps
pub mod Words
-- ---- rows
pub mod Streams
pub mod Logins
-- ---- handled stanzas
pub mod Handling
-- ---- moments
pub mod Moments
-- ---- view
pub mod Seen
pub mod OutgoingStanzas
