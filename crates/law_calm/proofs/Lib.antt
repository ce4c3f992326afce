-- what moves leave
pub mod Changes
pub mod Calm
pub mod Staying
pub mod Spared
-- rounds
pub mod Online
pub mod Counts
pub mod Quiet
pub mod Sparing
pub mod Handled
pub mod Settling
-- ends
pub mod StaysOpen
pub mod SessionStays
pub mod Unended
