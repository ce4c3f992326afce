pub mod Gives
pub mod Supplies
pub mod Tellings
