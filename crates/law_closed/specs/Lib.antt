-- ---- law: what is put for a connection that is not open
pub mod Untold
