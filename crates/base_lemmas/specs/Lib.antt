pub mod Distinct
pub mod Hexadecimal
