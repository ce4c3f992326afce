-- What a reader's loop has read.
pub mod ReadSteps
-- What is read is in the grammar, and back.
mod ReadFields
pub mod Found
pub mod Again
mod Answered
-- Fields that a peer chooses, and lines one behind the other.
pub mod PlainFields
pub mod LoggedPages
-- What events say, and where a course has come to.
pub mod Folded
pub mod Stands
pub mod Totals
-- A talk over a link, a piece more.
pub mod Spoken
-- A script that came to its closing is done whole.
pub mod Whole
-- What a course that is over came to.
pub mod Outcomes
pub mod SyncedLogs
