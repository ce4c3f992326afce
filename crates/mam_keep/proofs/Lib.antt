-- ---- what appends come to that were committed one after the other
pub mod Tables
pub mod Gathering
-- ---- what a check of loaded rows finds
pub mod Checked
