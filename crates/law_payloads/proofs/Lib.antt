-- whatever the payload
pub mod Judged
-- what base64 decodes to
-- each payload
pub mod IdReads
pub mod ManagementReads
pub mod ManagementWritten
pub mod SaslReads
pub mod RequestReads
pub mod TreeReads
pub mod ForwardReads
pub mod ArchivedReads
pub mod FinReads
