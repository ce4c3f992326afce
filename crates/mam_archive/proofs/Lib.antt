pub mod BareEnds
pub mod ChainLaw
pub mod ChainPositions
pub mod ChainReads
pub mod ChainSteps
pub mod IdDigits
pub mod Items
pub mod Keys
pub mod Linked
pub mod Marks
pub mod Newest
pub mod NumberedEntries
pub mod Walks
mod Worked
