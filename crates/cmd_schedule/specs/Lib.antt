pub use Rattle.base_io.specs.Names
-- What a schedule is, and which texts are schedules.
pub mod Schedules
pub mod Grammar
pub mod WireGrammar
pub mod LineLists
pub mod Kinds
pub mod Contents
-- What reading answers.
pub mod Reading
pub mod WireReading
-- What clauses of the code and lemmas cite.
pub mod Gives
pub mod Standing
