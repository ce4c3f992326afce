-- What clauses below see, which these speak of.
pub use Rattle.base_io.specs.Listed
pub use Rattle.sm_acks.specs.Counters
pub use Rattle.xml_trees.specs.Trees
pub use Rattle.im_stanza.specs.Views as StanzaViews
pub use Rattle.auth_scram.specs.Exchange
pub use Rattle.mam_log.specs.Views as LogViews
pub use Rattle.sm_outbox.specs.Kept
-- Machine: the rows of the client's table, over any speech.
pub mod Speech
pub mod Clients
pub mod ClientSteps
pub mod LoginSteps
pub mod AckRows
pub mod SessionRows
pub mod MessageRows
-- Steps of the code that no row is: where a session may stand.
pub mod Acks
-- View: what clauses see of a client.
pub mod Views
