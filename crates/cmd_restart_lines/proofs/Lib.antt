-- Within which bounds the lines of a file are.
pub mod Listed
-- What they declare.
pub mod Declared
-- ---- what becomes of a world's server
-- which ends of connections the server was told of, and which connections are open
pub mod OpenOnes
-- the same in worlds, move by move
pub mod ToldMoves
pub mod StandingWorlds
-- behind a restart
pub mod Restarted
-- behind a file
pub mod RunWorlds
-- ---- values
pub mod Worked
