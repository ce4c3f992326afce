pub use Rattle.srv_state.specs.Seen
pub use Rattle.srv_state.specs.State
pub use Rattle.net_traits.specs.Halves
pub use Rattle.base_io.specs.Counts
pub use Rattle.cmd_journal.specs.Journals
pub use Rattle.net_owner.specs.Events
pub use Rattle.net_owner.specs.Halves as TakersHalves
pub use Rattle.cmd_rerun.specs.Reruns
pub use Rattle.cmd_rerun.specs.Journaling
pub use Rattle.cmd_rerun.specs.Happening
pub use Rattle.net_traits.specs.Links
pub use Rattle.net_traits.specs.ToldSince
pub use Rattle.net_owner.specs.StartedReaders
pub use Rattle.net_owner.specs.Acceptors
-- law
pub mod Puts
-- view
pub mod Sendings
-- view
pub mod Bundles
-- view
pub mod Records
-- machine
pub mod Faults
-- law
pub mod GivenLinks
pub mod Served
pub mod Joined
-- view
pub mod Backs
