mod RefusedForms
mod RefusedRuns
mod RefusedWire
mod Worked
mod WorkedLaws
mod WorkedPages
mod WorkedReports
mod WorkedRuns
mod WorkedWire
pub mod EachOf
pub mod FirstLines
pub mod RunReports
pub mod WireReports
