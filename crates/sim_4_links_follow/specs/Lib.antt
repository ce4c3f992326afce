pub use Rattle.base_io.specs.Listed
-- law: what a word that the server takes is in the links
pub mod Taking
-- law: what a move of a world is in the links of a device
pub mod Following
-- law: what a step leaves of other devices
pub mod OtherDevices
-- law: which words
pub mod Reads
-- law: what a client's user writes to
pub mod Speaking
-- law: what a stanza gives to whom
pub mod Given
-- law: what a move of a world gives to whom
pub mod Steps
pub mod Standing
-- law: what the laws say
pub mod ClientsSpeakLaws
pub mod ServersLaws
pub mod OthersLaws
pub mod StanzasLaws
pub mod ClientsHearLaws
