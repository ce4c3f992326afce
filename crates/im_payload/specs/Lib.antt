pub mod Bare
pub mod Checks
pub mod Faults
pub mod Moments
pub mod Names
pub mod Readings
pub mod Shapes
pub mod Writing
