pub mod Archived
pub mod Declared
pub mod DirectReports
pub mod Fields
pub mod RunLines
pub mod RunReports
