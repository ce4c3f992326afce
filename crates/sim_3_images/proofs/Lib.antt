-- pipes and connections
pub mod PipeSteps
pub mod PutSteps
pub mod WireSteps
-- lists and numbers
pub mod Lookups
-- the client
pub mod TurnsAfter
-- the server
pub mod AfterOuts
pub mod ServerStatesRendered
pub mod Beginnings
pub mod Emissions
pub mod ReadsTold
pub mod PutsTold
pub mod ItemsServed
-- what is within limits
pub mod WiresFit
-- moves
pub mod NotesTold
pub mod NetworkMoves
pub mod UpMoves
pub mod UserMoves
pub mod DialMoves
pub mod Dialing
pub mod ItemsHeard
pub mod DownMoves
pub mod Moves
-- the order of a stream
pub mod ConnsKept
pub mod AloneKept
pub mod StepsInOrder
pub mod QuietRows
pub mod RowsInOrder
pub mod ServersInOrder
-- cores
pub mod UpComes
pub mod Waiting
pub mod Starts
pub mod Keeping
-- the client
pub mod RelayableItems
pub mod RelayableSteps
-- the server
pub mod AnsweredItems
pub mod AnsweredSteps
pub mod AnsweredReplies
pub mod AnsweredMessages
pub mod AnsweredRows
pub mod AnsweredRequests
pub mod AnsweredEnabled
pub mod AnsweredChallenges
pub mod AnsweredWords
pub mod AnsweredTable
-- lists
pub mod ChangedLists
-- moves of items, and the moves of bytes that they are
pub mod MoveSteps
pub mod MoveSimulates
-- worlds that are images, and the start
pub mod FittingEncodings
-- numbers
pub mod Counted
pub mod RuleKept
pub mod Falls
pub mod MomentsFall
pub mod CalmRows
pub mod ActsFall
pub mod RowsFall
pub mod ItemsFall
pub mod Within
pub mod WorldsWithin
-- ---- devices
pub mod OwnedDevices
pub mod NamedDevices
-- ---- logins
pub mod DrawnBytes
pub mod LoginTexts
pub mod Exchanges
pub mod DrawnLogins
pub mod ScheduleLogins
-- ---- the first world
pub mod FirstWorlds
-- kept worlds
pub mod Ends
pub mod MovesKept
-- ---- lists and texts
pub mod AppendedEntries
pub mod AddressParts
pub mod AccountNames
-- ---- the world
pub mod Booked
pub mod BookedMoves
pub mod DevicesMoved
pub mod OwnersKept
-- ---- the report
pub mod ArchiveStamps
pub mod BookedReports
pub mod Histories
-- ---- submissions
pub mod SubmittedArchives
pub mod ClientSteps
pub mod Trails
