-- what is written
pub mod Canon
pub mod Items
-- the room that it takes
pub mod Weight
