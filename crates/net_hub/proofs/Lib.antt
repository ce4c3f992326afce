-- what one half has sent
pub mod Sent
-- when two connections have one number
pub mod Numbers
-- what all have
pub mod AllSent
-- halves that are closed
pub mod Closed
-- outputs that are joined
pub mod Joins
-- events, and one more
pub mod MoreEvents
-- a moment that was told for an event
pub mod Moments
-- nothing is put for a connection that has not begun
pub mod NotBegun
-- the server, and its halves
pub mod MoreKept
-- the journal, and the archives at its end
pub mod JournalText
pub mod Endings
-- the halves of one link stand at one place
pub mod Paired
-- what a reader that has ended brought
pub mod Feeds
-- readers that can be settled
pub mod Ready
-- links that are given back, one more
pub mod Backs
-- the links of a server that has served
pub mod ServedLinks
-- the journal
pub mod Written
-- as many links as were handed out
pub mod CountedLinks
-- the links of readers that were joined
pub mod JoinedReaders
-- faults
pub mod Refusals
pub mod DoorFaults
-- a server that has served
pub mod Served
