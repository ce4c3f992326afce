-- answers
pub mod Sends
pub mod Pages
pub mod AnswersReplies
pub mod Addressed
pub mod Picks
pub mod HearingSums
pub mod Carried
pub mod AnswersMessages
-- replies
pub mod ServerStates
pub mod Replying
pub mod Building
pub mod Walks
pub mod Effects
pub mod RepliesFlags
-- server words
pub mod NonStanzaActs
pub mod NonStanzaRows
pub mod Flagged
pub mod Mutes
pub mod Binding
pub mod Events
pub mod ServerWordsStanzas
-- messages
pub mod Positions
pub mod TakenEntries
pub mod Marked
pub mod Booked
pub mod Staying
pub mod Archived
pub mod Addresses
pub mod Heard
pub mod Rows
pub mod Outcomes
pub mod MessagesFlags
-- words run
pub mod Muted
pub mod Bound
pub mod Stepped
pub mod Following
pub mod WordsRunWords
-- worlds run
pub mod BuiltAlong
pub mod Going
-- stanza events
pub mod FullQueues
pub mod MessageEvents
pub mod ReplyEvents
pub mod LabelEvents
-- what devices do
pub mod ReadStanzas
pub mod Doing
-- connections
pub mod Still
-- one device
pub mod OneOwner
pub mod Acting
-- flags kept
pub mod FlagsKeptFlags
pub mod FlagsKeptStepped
-- users
pub mod Called
pub mod Turning
pub mod Given
-- quiet worlds
pub mod QuietWorldsFlags
pub mod QuietWorldsUsers
pub mod Engine
-- devices
pub mod Grown
pub mod Gone
-- clients
pub mod Next
pub mod ClientsStepped
pub mod Rendered
pub mod Alone
pub mod ClientsDowns
-- user calls
pub mod Known
pub mod Spoke
pub mod Submits
pub mod Asks
pub mod Calls
-- session words
pub mod SessionWordsTurns
pub mod SessionWordsComing
pub mod Counted
pub mod Failed
pub mod Learnt
pub mod Named
pub mod Entered
pub mod SessionWordsWords
-- what a client has behind a word
pub mod DownMovesTurns
-- one device drifts
pub mod SessionStepping
pub mod DownMovesEnds
pub mod Silent
-- all may
pub mod Dials
-- each item that comes down
pub mod DownMovesDowns
-- clock
pub mod Kept
pub mod Fresh
pub mod Quietly
pub mod Wires
pub mod Ticks
pub mod ClockEnds
pub mod WordKinds
pub mod Goes
pub mod ClockUps
-- stanzas
pub mod GivenHere
pub mod GivenTold
pub mod MessagesGiven
-- servers
pub mod Placed
pub mod UpBuilt
pub mod Interleaved
pub mod ServersFlags
pub mod Links
pub mod ServersComing
pub mod Worlds
pub mod Submitted
pub mod ServersMessages
pub mod ServersReplies
pub mod Sources
pub mod ServersStanzas
pub mod ServersUps
-- grounds known
pub mod Grounds
