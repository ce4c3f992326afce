-- runs
pub mod ItemsBefore
pub mod Pieces
pub mod BytesSoFar
-- steps of the code: what is open, and tags under other limits
pub mod LargerLimits
pub mod OpenText
pub mod Stacks
-- steps of the code: many bytes at once
pub mod PlainTags
pub mod PlainTexts
pub mod UsualTexts
pub mod CalmTags
pub mod Openings
-- steps of the code: a byte of ASCII where no character is in hand
pub mod Alone
