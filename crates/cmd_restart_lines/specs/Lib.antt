pub use Rattle.cmd_restarts.specs.Files
pub use Rattle.cmd_restarts.specs.RestartFiles
-- ---- law
pub mod StartedAgain
-- ---- machine
pub mod RestartLines
pub mod RestartedRuns
