pub mod PayloadLaws
pub mod SaslLaws
mod SaslWorked
pub mod DiscoveryLaws
pub mod FeatureLaws
mod TextSteps
mod FeaturesWorked
