-- ---- characters, UTF-8 and fronts of bytes
pub mod CharacterLaws
pub mod AsciiNames
pub mod NameCharacters
pub mod Splits
pub mod Texts
pub mod UntilLens
pub mod Utf8Runs
-- ---- references and values
pub mod Ampersands
pub mod Going
pub mod PlainValues
pub mod ValueRuns
pub mod ValueSpellings
pub mod ValueTexts
-- ---- tags and declarations
pub mod DeclarationGrammar
pub mod DeclarationLaws
pub mod EndNames
pub mod InsideRuns
pub mod TagLaws
pub mod TagOutcomes
pub mod TagWords
pub mod Unrestricted
-- ---- writing
pub mod RoundTrips
pub mod SpellingRuns
-- ---- values at which the definitions are tried
mod Worked
