-- Items, one by one.
pub mod Alongs
-- Stanzas: their count, and payloads of one element.
pub mod Counts
pub mod Payloads
-- Pages.
pub mod OpenPages
pub mod PageEnds
-- Calls of the user.
pub mod UserSteps
-- Small values.
mod Worked
