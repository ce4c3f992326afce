-- ---- what a client says, which public clauses cite
pub mod Sessions
pub mod Messages
