-- ---- one step of the queue
pub mod RuleSteps
