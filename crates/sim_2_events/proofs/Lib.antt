pub mod Lists
pub mod Sessions
pub mod Changes
pub mod Events
pub mod Acts
pub mod Counted
