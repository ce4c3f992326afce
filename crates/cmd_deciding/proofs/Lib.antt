-- Lists, and intents whatever room they have.
pub mod Changed
pub mod Rooms
pub mod Named
-- Looks, and moves that are looked at.
pub mod Looked
pub mod Touched
pub mod Watched
-- Submissions and turns.
pub mod Tried
pub mod Turned
-- A file from its start on.
pub mod Sendable
pub mod Begins
pub mod Along
-- Texts.
pub mod Printed
