-- Values worked out.
mod Worked
-- Laws.
pub mod Directions
pub mod QueuedSubmissions
-- Steps of loops.
pub mod SettledPositions
pub mod TakenKinds
-- Look-ups.
pub mod OriginIds
pub mod NumberedSubmissions
pub mod SearchedPositions
