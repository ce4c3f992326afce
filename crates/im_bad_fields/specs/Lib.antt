-- which elements have a bad field
pub mod BadFields
-- a step of the code
pub mod PayloadTexts
