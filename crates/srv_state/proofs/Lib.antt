-- ---- steps of the code
pub mod Outputs
pub mod Lengths
pub mod AddressTexts
-- ---- what is told of a session
pub mod InfoFacts
