-- ---- what is kept, and what a change makes of it: the terms of a keeper's contract
pub mod Kept
pub mod Changes
pub mod Faults
-- ---- what the keepers in memory are seen as
pub mod InMemory
