pub mod Stays
pub mod ToldSince
