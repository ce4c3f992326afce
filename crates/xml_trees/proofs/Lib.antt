-- laws of trees
pub mod AttributeOrder
pub mod TidyLaws
pub mod TidyReads
-- steps of the code
pub mod Folds
pub mod RuleSteps
pub mod TidySteps
-- definitions at values
mod Worked
