pub use Rattle.cmd_direct.specs.Direct
pub use Rattle.cmd_report.specs.LawfulRuns
pub use Rattle.law_xml.specs.AllRows
pub use Rattle.law_xml.specs.Prefixes
pub use Rattle.law_xml.specs.StreamLimits
pub use Rattle.law_xml.specs.Streams
pub use Rattle.sim_1_applications.specs.Runs
pub use Rattle.xml_check.specs.Checked
-- law: what `check` tells of a stream, in the grammar's words
pub mod Checks
-- law: what the worlds of a run have to do with its report
pub mod OfWorlds
-- law: the moments and the sizes of pages of a direct run
pub mod DirectRuns
