pub mod Iterating
pub mod SameBytes
pub mod Xors
-- laws
pub mod AcceptedLaws
-- inductions over a text
pub mod DecodedRuns
pub mod GroupRuns
pub mod TextRuns
-- steps
pub mod ByteSteps
-- worked values
mod Worked
