-- ---- law: what becomes of a message
pub mod Messages
pub mod Destinations
pub mod Routes
pub mod Plans
-- ---- view: the code's sessions by their numbers
pub mod Numbered
pub mod Choices
