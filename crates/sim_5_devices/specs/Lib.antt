pub use Rattle.base_io.specs.Listed
-- law: labels, and what else becomes of a session at the server
pub mod Labels
-- law: which labels keep the links prompt and in time
pub mod InTime
-- law: requests for pages, and their ends
pub mod Pages
-- law: a log, and the same as a reading
pub mod Shown
-- law: what a client's calls and counts are to its submissions
pub mod Told
-- law: what a client has, and what it does
pub mod Plain
pub mod Logged
-- law: worlds with names of a schedule
pub mod Named
-- law: a catch-up of both ends over a session
pub mod Exchanges
