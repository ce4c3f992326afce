-- ---- lines that are written one after another
pub mod Lines
-- ---- what is read
pub mod Found
-- ---- values
pub mod Worked
