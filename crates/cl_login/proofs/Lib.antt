pub mod Exchanges
pub mod LoginLaws
mod Worked
