-- steps of the code
pub mod WrittenNodes
pub mod WrittenTags
-- laws
pub mod PartLaws
pub mod WeightLaws
