-- ---- pipes
pub mod Changes
pub mod Flows
pub mod Emitted
pub mod Taken
pub mod Placed
-- ---- moves
pub mod MoreMoves
pub mod PromptMoves
-- ---- the server
pub mod Found
pub mod WireStepsServerStates
pub mod Servings
-- ---- what the rows of the table of the handshake determine
pub mod Standing
-- ---- what the server reads of each word
pub mod ReadWords
-- ---- one move
pub mod HandMoves
pub mod LoginRows
-- ---- words of a session
pub mod Sessions
pub mod SessionRows
-- ---- ends
pub mod Removed
pub mod ServerStatesLeft
pub mod Leavings
pub mod Shuts
pub mod FooterRows
pub mod Parkings
pub mod GoneRows
-- ---- bindings
pub mod BindReads
pub mod Pushed
pub mod Binding
pub mod Former
pub mod BindRows
-- ---- moments, and resumptions
pub mod MomentRows
pub mod ResumeReads
pub mod StrangeRows
-- ---- other devices
pub mod ServersOthers
pub mod OtherRows
pub mod OtherEnds
-- ---- items
pub mod ItemsTaken
-- ---- resumptions of sessions that live
pub mod ResumeRows
pub mod Demanding
pub mod ResumeTaken
pub mod ResumeCounts
pub mod ResumeHigh
pub mod Swapped
pub mod ResumeOn
pub mod Resumptions
-- ---- connections by their numbers, and devices by their places
pub mod Numbered
-- ---- what moves of one end leave of the other
pub mod Stays
-- ---- cuts
pub mod CutPipes
-- ---- a client leaves its connection
pub mod Leaves
pub mod Parts
-- ---- a connection comes
pub mod Inserted
pub mod Dialling
-- ---- worlds
pub mod Lifts
pub mod DownWords
pub mod ConnectionsElsewhere
pub mod Comes
pub mod Nobody
-- ---- what stays of a device, by small steps
pub mod OthersElsewhere
pub mod OthersServerStates
pub mod Pushing
pub mod Acts
-- ---- what is of the one is not of the other
pub mod Parted
-- ---- words and ends
pub mod Binds
pub mod Resumes
pub mod Ends
pub mod Words
-- ---- connections that come
pub mod Comings
-- ---- a step of the client, in its pipes and in what it has
pub mod Hearing
pub mod Working
pub mod Turning
-- ---- what words are read as
pub mod Rests
pub mod LoginReads
pub mod Counted
pub mod CountReads
pub mod EndReads
-- ---- sessions
pub mod FirstStanzas
pub mod Again
pub mod Twice
pub mod SessionReads
-- ---- all
pub mod AllReads
-- ---- what a client puts of itself
pub mod Fair
pub mod Addressed
-- ---- what comes of a stanza that was handled, and of a call
pub mod Outcomes
pub mod Rows
-- ---- as moves of the links
pub mod Courses
pub mod Spoken
-- ---- what a row on a stanza sends, and to whom
pub mod Listening
-- ---- what is given
pub mod GivenParts
pub mod Tellings
-- ---- a small step, for one device
pub mod Thinned
pub mod MorePipes
pub mod StanzasElsewhere
pub mod Own
-- ---- all of them
pub mod ActSteps
pub mod StanzaRows
-- ---- one device
pub mod Downs
-- ---- and those beside
pub mod Ups
pub mod UpEnds
-- ---- how a server stands
pub mod Headers
pub mod StandMoves
