-- ---- a connection that is not open
pub mod UntoldRuns
