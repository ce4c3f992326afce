-- ---- what rows are made of, and what holds of all of them
pub mod LogParts
pub mod Parts
pub mod LoginWalk
pub mod OnlineWalk
pub mod TableWalk
-- ---- sessions
pub mod Standings
pub mod SubmissionsKept
pub mod Directing
pub mod Noting
-- ---- logs
pub mod KeptLogs
pub mod GrownLogs
pub mod LogLaws
pub mod CaughtUp
pub mod NextPages
-- ---- each thing that is put turned into another
pub mod RowsRendered
pub mod OnlineRendered
pub mod TableRendered
-- ---- calls
pub mod CallsMade
pub mod CallsRendered
-- ---- rows
pub mod RowsPut
-- ---- items and calls
pub mod StepsOrdered
