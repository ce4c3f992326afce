-- ---- rows of a session
pub mod Bindings
pub mod Managements
pub mod Resumptions
-- ---- the row on requests
pub mod Requests
pub mod Pages
-- ---- the row on messages
pub mod Messages
-- ---- view: what the private code goes by
pub mod Parts
