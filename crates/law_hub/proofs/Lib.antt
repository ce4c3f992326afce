-- ---- what events show of a connection
pub mod ShownRuns
-- ---- what is put for one
pub mod LineRuns
pub mod PutRuns
-- ---- the links, and the journal
pub mod CarriedRuns
pub mod JournalInputs
pub mod JournalLaws
