-- ---- each thing that is put turned into another
pub mod Rendered
-- ---- what requests lead to
pub mod Answering
-- ---- pieces of bytes
pub mod Pieces
-- a server of bytes as an encoding of one of items
pub mod Encodings
-- ---- messages that were taken, and what archives get
pub mod Taken
-- ---- what goes out live
pub mod Live
pub mod Ready
pub mod Copied
-- ---- sessions and logins
pub mod Sound
pub mod Numbers
pub mod Accounts
-- ---- events, and sessions that are gone
pub mod Events
pub mod Gone
-- ---- what events prove
pub mod Happenings
pub mod Proved
