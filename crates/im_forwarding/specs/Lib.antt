-- ---- what a server passes on, which public clauses cite
pub mod Passed
pub mod Copies
pub mod Results
pub mod Queries
-- ---- what the private code writes by
pub mod Parts
