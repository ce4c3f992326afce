-- what is made of a payload
pub mod Bodies
pub mod Entries
pub mod Ids
