-- first worlds
pub mod Lists
pub mod FirstServers
pub mod FirstDevices
pub mod FirstWorldsBeginning
-- schedules run
pub mod Positions
pub mod Leading
pub mod Rounds
pub mod Wires
pub mod ByteMoves
pub mod SingleMoves
pub mod LineUnits
-- first lines
pub mod FirstLinesBeginning
-- refused lines
pub mod MovesRefused
pub mod NamesApart
pub mod LinesRefused
pub mod QuietMoves
pub mod LinesAnswered
-- lines
pub mod LineCounts
pub mod LineMoments
pub mod LineSays
pub mod LineEvents
pub mod LinesAlong
pub mod LinesDone
pub mod WholeSchedules
-- each move
pub mod Moves
-- lines
pub mod LogLines
pub mod TakeLines
pub mod AccountLines
-- worlds
pub mod Ground
pub mod Settled
pub mod DeviceLines
pub mod WorldTold
pub mod Shown
-- laws kept
pub mod Composed
-- the counts of a connection's bytes have 64 bits
pub mod CountedBytes
-- and so have all numbers that a run leaves open
pub mod ConnLines
pub mod OpenNumbers
-- reports
pub mod ReadReports
-- each schedule
pub mod WholeRuns
-- each world of a history stands beside the applications
pub mod WorldsSimulated
-- what each session has of lists
pub mod EpochLists
-- laws
pub mod ReachedEpochs
pub mod SessionPairs
pub mod SessionMessages
pub mod ShutConns
-- late words
pub mod OtherSessions
pub mod WordsSparing
pub mod WordsOutside
pub mod LatePipes
pub mod LateMoves
pub mod LateBytes
-- what each session has of takes, and what is taken behind a bind
pub mod SessionRuns
pub mod Chains
pub mod BoundSessions
pub mod TakenAfter
pub mod HandledBinds
-- the sessions of a device along a history, and what its client notes down
pub mod LabelledLists
pub mod HistorySteps
pub mod NotedPairs
pub mod SessionCourses
pub mod Worked
pub mod Further
-- which faults there are
pub mod Reasons
pub mod EventRows
pub mod PagesStay
pub mod ItemsTold
pub mod PiecesTold
pub mod Timely
pub mod AsksUnbound
-- runs, and the links of devices
pub mod Handing
pub mod Along
pub mod LinksShown
pub mod RunRounds
pub mod Connected
pub mod Resumed
pub mod Said
-- files of intents
pub mod TriesSent
pub mod TriesLists
pub mod TriesDue
pub mod TriesAgain
pub mod TriesMade
pub mod TriesNotes
pub mod TriesLogged
pub mod TriesFacts
pub mod TriesWalk
pub mod TriesEnd
pub mod TriesWorked
-- what a run leaves open
pub mod OutsOpen
pub mod WordsOpen
pub mod OpenItems
pub mod ClientStays
pub mod OpenDowns
pub mod OpenBytes
pub mod OlderEmpty
pub mod OpenMoves
pub mod OpenRuns
pub mod DialledOpen
