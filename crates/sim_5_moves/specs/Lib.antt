pub use Rattle.base_io.specs.Listed
-- law: what a server's state is to the applications, and which stanzas are said
pub mod Around
pub mod Heard
-- machine: what the server does on a stanza, and how that is read
pub mod Sent
-- law: a stanza that is no message, and the session that it is of
pub mod Replied
-- law: what comes but stanzas
pub mod Coming
-- law: which submissions are meant, and who hears of them
pub mod Submits
pub mod Hearing
-- machine: what the server does
pub mod Done
-- law: words of a device's connections, and its flags
pub mod WordsRunWords
-- law: a world of items beside one of the applications
pub mod Running
pub mod Going
-- law: what becomes of devices where a stanza is handled
pub mod Handled
-- law: a move that is one client's alone
pub mod Moves
-- law: moves by which no device does anything with stanzas
pub mod Silent
-- law: what is known of the world of the applications
pub mod Ground
-- law: which words
pub mod SessionWordsWords
-- law: which words a client reads without a label
pub mod DownMovesWords
-- law: the device to which something is given
pub mod Recipients
-- law: requests that are under way to the server
pub mod Placed
-- law: what the laws say
pub mod AnswersLaws
pub mod ClientsLaws
pub mod ClockLaws
pub mod ConnectionsLaws
pub mod DevicesLaws
pub mod DownMovesLaws
pub mod FlagsKeptLaws
pub mod GroundsKnownLaws
pub mod MessagesLaws
pub mod OneDeviceLaws
pub mod RepliesLaws
pub mod ServerWordsLaws
pub mod ServersLaws
pub mod SessionWordsLaws
pub mod SilentWorldsLaws
pub mod StanzasLaws
pub mod UserCallsLaws
pub mod UsersLaws
pub mod StanzaEventsLaws
pub mod WordsRunLaws
