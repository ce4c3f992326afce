pub use Rattle.base_io.specs.Listed
pub use Rattle.mam_archive.specs.Entries
pub use Rattle.mam_archive.specs.Peers
-- ---- what a page is, which the public clauses cite
pub mod Kept
pub mod Parties
pub mod Matches
pub mod Cuts
pub mod PageOf
pub mod Looks
-- ---- what the private code finds a page by
pub mod Spans
pub mod Windows
pub mod Tallies
pub mod Walks
pub mod Stretches
