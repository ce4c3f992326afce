pub mod BindLaws
pub mod CarbonLaws
pub mod ForwardingLaws
pub mod IdLaws
pub mod ReadLaws
pub mod RequestLaws
pub mod SmFailedLaws
pub mod StreamManagementLaws
mod WorkedPayloads
