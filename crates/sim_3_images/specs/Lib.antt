pub use Rattle.base_io.specs.Listed
-- machine: what clients note down in a move, and which stanzas the server reads and puts
pub mod Notes
pub mod Reads
pub mod Puts
-- law: pipes, connections and worlds of bytes as encodings of those of items
pub mod PipeEncodings
pub mod WireEncodings
pub mod WorldEncodings
-- what the two cores owe
pub mod EncodingsCores
-- machine: the moves of items that a move of bytes is, and the first world
pub mod ItemRuns
pub mod ItemStarts
pub mod Stands
pub mod EncodingsOwed
-- what each core puts, beside that it fits
pub mod Relayable
-- what is owed of that
pub mod CoresOwed
-- law: what is within limits in a world of items, and which moves keep it
pub mod Fitting
-- law: numbers of sessions against connections
pub mod Unbound
pub mod Worlds
-- law: what both ends know of a device, and what a connection's login is
pub mod Devices
pub mod Logins
-- law: what a world of bytes keeps beside its image
pub mod Kept
-- ---- the takes of a report, and its archives
pub mod ReportTakes
-- ---- submissions
pub mod Submitted
-- ---- worlds that follow one another
pub mod Following
