-- Ids of submissions, and texts that are cut.
pub mod Ids
-- Intents that are changed, and their room.
pub mod Rooms
-- Looking again.
pub mod Again
-- Values worked out.
pub mod Worked
