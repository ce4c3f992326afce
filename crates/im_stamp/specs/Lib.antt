pub mod Dates
pub mod StampReading
pub mod Stamps
