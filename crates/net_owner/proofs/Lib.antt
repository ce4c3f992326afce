-- a list of items, one sender's among them
pub mod ItemsOf
-- one step of the queue
pub mod RuleSteps
-- a list of items that is longer by one
pub mod LongerFeeds
-- what an acceptor has sent
pub mod LongerArrivals
-- what happens to one connection, where one event more happened; each place after each kind of item
pub mod KeptPositions
-- nothing is left behind the end of a reader
pub mod WholeFeeds
-- the owner after each kind of item
pub mod OwnerSteps
-- the connections that came in
pub mod CountedArrivals
-- a reader that was joined, and the acceptor
pub mod Settled
-- the events are a merge
pub mod MergedFeeds
-- the half of each reader is of the link that stands at its place; what was met first
pub mod HeldHalves
pub mod FirstTroubles
-- the readers stay at their places
pub mod MoreReaders
