pub mod DeviceTexts
pub mod Headers
pub mod LoggedLines
pub mod Pairs
pub mod TakenArchives
