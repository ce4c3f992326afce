-- how long texts are as they are written
pub mod Texts
-- how long elements are
pub mod Elements
-- elements that a client reads as they are written
pub mod Bounded
-- messages and entries
pub mod Messages
-- How long texts are, of which a client says something.
pub mod Bounds
-- law: what a client keeps to
pub mod Within
-- what comes that a client can answer
pub mod Answerable
pub mod Short
-- what a server of items keeps to
pub mod Keeps
-- what is read of what comes
pub mod Words
