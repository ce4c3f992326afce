-- What laws are about: calls, one after the other.
pub mod Calls
-- What is so between any two calls.
pub mod Standing
pub mod Logs
-- What becomes of it.
pub mod Directed
pub mod Noted
pub mod CatchUps
-- Each thing that is put turned into another.
pub mod Rendered
-- law
pub mod Order
