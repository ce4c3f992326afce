-- ---- names, scopes and declarations
pub mod DeclarationRuns
pub mod JoinedNames
pub mod NameLaws
pub mod ScopeRuns
pub mod BoundNames
-- ---- expanded names, and whether they are distinct
pub mod Expanded
pub mod NamePairs
pub mod SameNames
pub mod SpelledLengths
pub mod SpelledNames
-- ---- whole tags and headers
pub mod EndLaws
pub mod HeaderValues
pub mod Parted
pub mod StartLaws
-- ---- values at which the definitions are tried
mod Worked
