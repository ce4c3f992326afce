-- What clauses below see, which these speak of.
pub use Rattle.base_io.specs.Listed
pub use Rattle.sm_acks.specs.Counters
pub use Rattle.xml_framer.specs.States
pub use Rattle.xml_trees.specs.Trees
pub use Rattle.im_stanza.specs.Views as StanzaViews
pub use Rattle.auth_scram.specs.Exchange
pub use Rattle.mam_log.specs.Views as LogViews
pub use Rattle.sm_outbox.specs.Kept
pub use Rattle.cl_handlers.specs.Views
-- Machine: the rows of pages and requests, and the table, over any speech.
pub mod PageRows
pub mod Steps
pub mod Feeds
pub mod UserCalls
-- Steps of the code that no row is: where a session may stand, and without the count of a stanza.
pub mod Counting
pub mod Asking
-- View: what clauses see of a client.
pub mod Values
pub mod Making
