pub use Rattle.base_io.specs.Listed
pub use Rattle.xml_writer.specs.Canon
pub use Rattle.xml_framer.specs.Limits
pub use Rattle.xml_framer.specs.Machine
pub use Rattle.xml_framer.specs.States
pub mod Lines
pub mod Checked
pub mod Pieces
