-- Rows of the login, and what waits again at a resumption.
pub mod Followed
pub mod Resending
pub mod AckSteps
-- Messages: ids that the account gave, and results.
pub mod OwnIds
pub mod Results
