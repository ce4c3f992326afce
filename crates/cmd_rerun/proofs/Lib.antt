-- ---- the start
pub mod AccountsAtStart
-- ---- events
pub mod Numbers
pub mod EventRuns
pub mod Adding
-- ---- entries, sessions and the small steps
pub mod Entries
pub mod Sessions
pub mod Steps
-- ---- rows, and what they leave of a connection
pub mod Rows
pub mod Silence
pub mod Soundness
-- ---- what events leave of a connection
pub mod EventSteps
-- ---- the text
pub mod Lines
-- ---- law
pub mod ArchiveCounts
