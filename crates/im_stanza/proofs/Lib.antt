pub mod AddressLemmas
pub mod ErrorLaws
pub mod Judged
pub mod KindLemmas
pub mod Priorities
pub mod ReadingLaws
pub mod WrittenAttrs
pub mod WrittenLaws
mod Worked
