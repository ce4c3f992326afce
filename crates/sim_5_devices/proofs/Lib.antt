-- session labels
pub mod SessionStepping
pub mod SessionLabelsSteps
pub mod Sorted
pub mod Given
pub mod Worlds
pub mod AllSessionSteps
-- links in time
pub mod Alike
pub mod Put
pub mod Along
pub mod Staying
pub mod Rest
-- labels in time
pub mod Kept
pub mod LabelsInTimeEnds
pub mod Timely
-- log readings
pub mod Entries
pub mod LogReadingsSteps
pub mod LogReadingsEnds
-- submissions
pub mod Lines
pub mod Shown
pub mod Puts
pub mod Counts
pub mod SubmissionsEnds
pub mod Saying
pub mod Asking
pub mod Served
pub mod Grown
-- logs
pub mod Stanzas
pub mod Forwards
pub mod Names
pub mod ClientSteps
pub mod Quiet
pub mod Lives
pub mod Found
pub mod Faults
pub mod Results
pub mod Restarts
pub mod LogsEnds
pub mod Logged
pub mod LogsHistories
-- readings known
pub mod Numbers
pub mod Readings
pub mod Next
pub mod ReadingsKnownHistories
-- catch-ups of both ends
pub mod Queries
pub mod PagesCut
pub mod AnswersSent
pub mod AnswersTaken
pub mod PagesEnded
pub mod WholeExchanges
