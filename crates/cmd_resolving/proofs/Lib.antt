-- The world that a file comes to.
pub mod Expanded
-- What its lines declare.
pub mod Declared
-- Within which bounds its lines are.
pub mod Listed
-- Values worked out.
pub mod Worked
