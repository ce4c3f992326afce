-- the grammar: no two spellings of one item
pub mod OneText
pub mod TagEnds
pub mod OneSpelling
-- what is written is spelled
pub mod SpelledNames
pub mod SpelledAttributes
pub mod SpelledTexts
pub mod CanonLaws
pub mod HeaderLaws
-- which byte decides which fault
pub mod FaultLaws
pub mod CountLaws
pub mod CountedRuns
pub mod RunPositions
-- what is spelled is read: runs of bytes
pub mod Quiet
pub mod HeldBytes
pub mod ByteSteps
pub mod TextBytes
pub mod DataRuns
pub mod ReferenceRuns
pub mod SectionBytes
pub mod SectionRuns
pub mod TextRuns
pub mod TagParts
pub mod TagRuns
pub mod FooterRuns
pub mod DeclarationBytes
pub mod DeclarationRuns
-- what is spelled is read: elements, headers, items, streams
pub mod SpelledTrees
pub mod ElementTags
pub mod ElementStates
pub mod ElementRuns
pub mod HeaderRuns
pub mod ItemRuns
pub mod StreamRuns
-- what is read is spelled
pub mod ReadCharacters
pub mod TextFronts
pub mod WithinParts
pub mod OpenLevels
pub mod ReadSoFar
pub mod ReadOutside
pub mod TextHands
pub mod ReadInside
pub mod ReadStreams
-- what is read is plain
pub mod SaidCharacters
pub mod PlainElements
-- what is written is read
pub mod WrittenFits
pub mod WrittenHeaders
pub mod WrittenRuns
pub mod WrittenPieces
pub mod FitsAgain
pub mod PassedOn
-- what is unfinished
pub mod PrefixSteps
pub mod PrefixRuns
-- where tokens begin
pub mod OffsetSteps
pub mod OffsetTags
pub mod OffsetMarks
pub mod OffsetRuns
pub mod OneOffset
pub mod HandsTold
pub mod OneHand
-- the table of faults is complete
pub mod RowsTold
pub mod RowsDecide
pub mod ByteRowLaws
pub mod ContextsTold
pub mod ContextRuns
pub mod TokenStays
pub mod ContextStays
pub mod FooterHands
pub mod TagByteRows
pub mod OpenRowLaws
pub mod OpenRowsTold
pub mod UsedBound
pub mod LongRowLaws
pub mod AllRowLaws
pub mod ReferencePartLaws
-- what is given
pub mod GivenItems
-- definitions at values
mod WorkedFits
mod WorkedGrammar
mod WorkedOffsets
mod WorkedReadings
mod WorkedRuns
mod WorkedSpellings
mod WorkedStreams
-- runs of the framer: over a rest, up to a cut, over items behind items
pub mod RestRuns
pub mod SplitRuns
pub mod JoinedRuns
-- the laws of pipes
pub mod PipeLaws
-- cuts worked out beforehand
mod WorkedCuts
-- laws
pub mod ReadLaws
pub mod PutLaws
pub mod PutRuns
