pub use Rattle.base_io.specs.Listed
-- machine: pipes, worlds and moves
pub mod ItemPipes
pub mod ItemWorlds
pub mod ItemMoves
-- law: what is said, and what it means
pub mod Meant
-- machine: how items are read
pub mod Told
pub mod Ups
pub mod Downs
pub mod Items
-- law: what stands for what
pub mod Identities
pub mod WordItems
pub mod Counted
pub mod Pipes
pub mod Sent
pub mod Labels
pub mod Frames
pub mod Servers
pub mod Clients
pub mod Represents
pub mod Reading
-- law: what stands for what
pub mod Built
pub mod Submitted
pub mod Served
