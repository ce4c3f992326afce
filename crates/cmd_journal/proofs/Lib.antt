-- What a reader's loop has read.
pub mod AccountLists
pub mod EventLists
-- ---- what is read is in the grammar, and back
pub mod Again
mod Answered
pub mod Found
mod ReadFields
mod HexFields
mod Words
-- The parts of lines, one behind the other.
pub mod EntryTexts
pub mod PlainFields
