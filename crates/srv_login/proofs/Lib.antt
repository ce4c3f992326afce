pub mod AccountFaults
pub mod AccountLists
pub mod LoginLaws
pub mod MajorVersions
