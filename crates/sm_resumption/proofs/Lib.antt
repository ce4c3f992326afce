pub mod BindFacts
pub mod DeliveryFacts
pub mod ExpiryFacts
pub mod HousedFacts
pub mod IndexFacts
pub mod ResumeFacts
pub mod RowFacts
pub mod StoredFacts
pub mod TableFacts
mod Worked
