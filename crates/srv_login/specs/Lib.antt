pub mod Accounts
pub mod Headers
pub mod Logins
pub mod Negotiations
