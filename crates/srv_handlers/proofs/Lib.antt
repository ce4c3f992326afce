-- ---- sessions that are resumed
pub mod Resumed
-- ---- steps, one behind the other
pub mod Sayings
-- ---- stanzas of a page
pub mod Sendings
pub mod PageLengths
pub mod ArchiveSteps
-- ---- a request counts as handled
pub mod Countings
-- ---- steps of the code
pub mod ArchivePositions
pub mod Counted
pub mod Runs
pub mod PlanViews
