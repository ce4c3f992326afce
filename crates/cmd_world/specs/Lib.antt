pub use Rattle.cmd_network.specs.Devices
pub use Rattle.srv_core.specs.Events
pub use Rattle.xml_framer.specs.States
pub use Rattle.cmd_network.specs.Wires
pub use Rattle.srv_state.specs.State
pub use Rattle.srv_state.specs.Seen
pub use Rattle.base_io.specs.Listed
-- A world, and one move of it.
pub mod Worlds
pub mod Effects
pub mod Moves
-- The worlds of a schedule.
pub mod Declaring
pub mod Lines
pub mod Histories
-- The report of a world.
pub mod WorldReports
-- What is asked of a world and of a line.
pub mod Standing
