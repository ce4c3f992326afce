-- ---- texts
pub mod TextSizes
pub mod Characters
pub mod Numerals
pub mod NormalForms
pub mod SizesOfAddresses
-- ---- elements
pub mod ElementSizes
-- ---- parts
pub mod PutParts
-- ---- what a server says by itself
pub mod PutReplies
pub mod Requests
pub mod Logins
-- ---- what it passes on
pub mod StampSizes
pub mod Passing
pub mod Forwarding
-- ---- texts, and how long they are as they are written
pub mod Ascii
pub mod Base64
pub mod Texts
pub mod Spelled
-- ---- elements within bounds
pub mod RequestParts
pub mod Stanzas
-- ---- what a client says
pub mod Headers
pub mod Sasl
pub mod Management
pub mod Sessions
pub mod Submissions
pub mod Ids
pub mod Pages
pub mod RequestReplies
-- ---- laws
pub mod Fitted
-- ---- what rows are made of
pub mod TurnsKept
-- ---- rows
pub mod Messages
pub mod ClientLoginsKept
pub mod SessionsKept
pub mod ClientMessagesKept
pub mod PagesKept
-- ---- items and calls
pub mod ClientStepsKept
-- ---- what can be answered
pub mod ShortReads
-- ---- lists
pub mod Lists
-- ---- what comes
pub mod GivenShort
pub mod Readings
-- ---- small steps
pub mod ServerStepsKept
-- ---- rows
pub mod ServedAddresses
pub mod ServerLoginsKept
pub mod RowsKept
pub mod ServerMessagesKept
pub mod RequestsKept
-- ---- items
pub mod TableKept
-- ---- events
pub mod MomentsKept
-- ---- the beginning
pub mod StartKept
pub mod NamesWithin
