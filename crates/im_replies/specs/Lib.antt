-- ---- what a server says, which public clauses cite
pub mod Streams
pub mod Sasl
pub mod Management
pub mod Requests
