-- ---- law: what is done again from a journal
pub mod Again
-- ---- law: what links carried, as it is done again
pub mod Carried
