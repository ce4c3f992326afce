pub mod Positions
pub mod Names
pub mod Asked
pub mod Puts
