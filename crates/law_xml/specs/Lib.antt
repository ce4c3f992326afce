-- grammar: which bytes spell a text, an item, a stream
pub mod Texts
pub mod Spells
pub mod Plain
pub mod Streams
pub mod PlainItems
pub mod Offsets
-- machine: where a framer stands, and which byte decides which fault
pub mod Standing
pub mod FaultRows
pub mod Rows
pub mod Hands
pub mod ByteRows
-- grammar and machine: spellings within the limits of a framer
pub mod Within
pub mod StreamLimits
pub mod Prefixes
pub mod Contexts
pub mod ReferenceParts
pub mod OpenRows
pub mod LongRows
pub mod AllRows
pub mod Fitting
pub mod WrittenStreams
-- machine: which bytes give which items
pub mod Items
-- law: what a pipe carries
pub mod Carries
pub mod Puts
-- law
pub mod PutLists
