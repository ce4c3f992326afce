-- trees
pub mod Attributes
pub mod Trees
pub mod Tidied
pub mod Readers
-- views of the declared types
pub mod Codes
pub mod Runs
pub mod Views
