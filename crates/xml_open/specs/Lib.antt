pub mod Nested
-- open elements, and what pieces say of them
pub mod Open
pub mod Pieces
-- views of the declared types
pub mod OpenCodes
pub mod Building
pub mod Named
