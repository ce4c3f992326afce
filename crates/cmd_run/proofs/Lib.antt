pub mod Decided
pub mod Dialers
pub mod Doors
pub mod Inputs
mod Rows
pub mod Statuses
mod Unread
