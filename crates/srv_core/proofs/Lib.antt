-- ---- a stanza that counts
pub mod Counted
-- ---- steps of the code
pub mod Entries
pub mod Archives
pub mod Restarts
pub mod ItemRuns
pub mod Feeding
-- ---- values
pub mod Worked
-- ---- laws
pub mod Tells
pub mod Kept
