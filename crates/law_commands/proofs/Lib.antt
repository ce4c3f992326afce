-- what `check` tells
pub mod FaultGives
pub mod Tellings
-- the worlds of a report
pub mod HistoriesGrow
pub mod Marks
pub mod Worlds
pub mod DirectWorlds
pub mod RunWorlds
-- the clock and the pages of a direct run
pub mod DirectClocks
pub mod DirectPages
