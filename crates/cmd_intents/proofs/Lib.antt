-- Lines that are written as a schedule has them.
pub mod Lines
-- What reading gives.
pub mod Found
-- Values worked out.
pub mod Worked
