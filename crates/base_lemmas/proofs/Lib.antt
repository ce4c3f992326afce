-- Look in std first (`rt lemma WORD..`): it has none-some and same_Some of options, cond_some of conditions, and_parts,
-- or_parts, and-true, and-false, or-false, or-true and or_assoc of booleans, eqb-true, ne_eqb and le-leb of numbers,
-- All-weaker of lists, tied_then of orderings. Here is what it lacks.

-- ---- by subject
pub mod Options
pub mod Conditions
pub mod Bytes
pub mod Lists
pub mod Utf8
-- ---- of the definitions of this crate
pub mod HexDigits
pub mod DistinctItems
