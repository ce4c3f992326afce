pub use Rattle.srv_state.specs.Seen
pub use Rattle.base_io.specs.Listed
pub use Rattle.cmd_journal.specs.Journals
pub use Rattle.cmd_journal.specs.Texts
pub use Rattle.srv_core.specs.Events
pub mod Reruns
-- law: what a connection is told
pub mod Silence
-- machine: what happens to a server, and its journal
pub mod Happening
pub mod Journaling
