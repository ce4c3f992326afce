pub use Rattle.cmd_direct.specs.Direct
pub use Rattle.cmd_report_reader.specs.Readable
pub use Rattle.cmd_report_reader.specs.Reading
pub use Rattle.sim_1_applications.specs.Runs
-- What the definition of a run leaves open.
pub mod Numbers
