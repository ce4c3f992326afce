pub mod LoginRows
pub mod Logins
pub mod Puts
