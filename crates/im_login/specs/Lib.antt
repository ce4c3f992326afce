pub mod Payloads
pub mod Readings
pub mod Sasl
-- ---- what is offered and told, which public clauses cite
pub mod Features
pub mod Discovery
