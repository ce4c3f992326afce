-- steps of the code
pub mod PartSteps
pub mod KeptNodes
pub mod EntryParts
-- laws
pub mod TreeLaws
pub mod IdLaws
pub mod EntryLaws
