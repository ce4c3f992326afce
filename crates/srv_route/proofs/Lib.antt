-- ---- sessions by their numbers
pub mod Chosen
pub mod Rising
mod UserPlans
-- ---- laws
pub mod PlanCases
pub mod PlanLaws
pub mod CopyLaws
pub mod GivenOnce
pub mod Ascending
pub mod OwnAddress
pub mod ShownAlone
