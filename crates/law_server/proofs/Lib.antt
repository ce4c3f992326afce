-- ---- sessions and small steps, turned
pub mod SessionsRendered
pub mod StepsRendered
-- ---- rows, turned
pub mod StreamsRendered
pub mod SessionRowsRendered
pub mod RequestsRendered
pub mod MessagesRendered
pub mod TableRendered
-- ---- counts
pub mod Counts
-- ---- requests
pub mod OwnActs
pub mod LastAnswers
pub mod OwnAnswers
-- ---- pieces of bytes
pub mod PiecesJoined
-- ---- what steps leave
pub mod Frames
-- ---- moments, and connections that come and go
pub mod MomentsRendered
-- ---- bytes
pub mod EventsRendered
-- ---- what acts mean for archives
pub mod Marks
pub mod QuietRows
pub mod MessageMarks
pub mod ItemTakes
-- ---- sessions
pub mod NumbersKept
pub mod AccountsKept
pub mod FittingRows
pub mod ItemFits
pub mod SoundEvents
-- ---- what is taken
pub mod ArchiveEntries
pub mod NumbersWithin
pub mod PieceTakes
-- ---- rows: what goes out, and who is logged in
pub mod Rows
pub mod LoginRows
pub mod SessionRows
pub mod LiveRows
pub mod RowsDue
-- ---- messages that go out
pub mod PutsDue
pub mod PassedOn
pub mod Reached
pub mod KeptMessages
pub mod SentPuts
pub mod WorkedLive
-- ---- passwords that were proved
pub mod Seats
pub mod SeatedActs
pub mod ProvedEvents
-- ---- sessions that are gone
pub mod SessionWalks
pub mod GoneSessions
pub mod HighCounts
pub mod EventsMade
mod WorkedGone
-- ---- logins
pub mod NoncesApart
