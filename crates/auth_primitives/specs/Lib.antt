pub mod Hashes
pub mod Keyed
-- what is base64
pub mod Canonical
-- a step of the code
pub mod Reading
