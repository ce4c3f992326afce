-- The stanzas between this project's own ends: those that the server takes of a session, and those that the client
-- counts.
use Rattle.std.specs.Prelude.{◌≡◌, ℕ, true, false, List, Option, Some, None, Result, Ok}
use Rattle.srv_state.specs.State.{ServerState}
use Rattle.srv_state.specs.Words.{is_long, is_stanza}
use Rattle.im_jid.specs.Cuts.{resource_of}
use Rattle.sm_live.specs.declared.told.SessionInfo.{SessionInfo}
use Rattle.im_stanza.specs.Readings.{stanza_of}
use Rattle.im_stanza.specs.declared.fault.StanzaFault.{StanzaFault}
use Rattle.im_stanza.specs.declared.stanzas.Stanza.{Stanza}
use Rattle.im_stanza.specs.declared.stanzas.Stanza.TheVariants as stanza
use Rattle.srv_core.specs.Stanzas.{stanza_condition}
use Rattle.xml_trees.specs.Trees.{Elem}
use Rattle.xml_writer.specs.Items.{ItemOut, Whole}

-- a message that is for no resource of an account in particular (RFC 6121, section 8.5.2)
abbrev pub IsBare : Option (List ℕ) → Type 0
IsBare None = Unit {0}
IsBare (Some to) = resource_of to ≡ None

abbrev pub IsForBare : Result Stanza StanzaFault → Type 0
IsForBare (Ok (stanza.Message m)) = IsBare m.to
IsForBare _ = Unit {0}

-- it is a stanza by its name, not too long, for no resource in particular, and no condition ends the stream for it,
-- whosever it is
pub record IsForServer (z : ItemOut) : Type 0 where
  pub elem : Elem
  pub whole : z ≡ Whole elem
  pub stanza : is_stanza elem ≡ true
  pub short : is_long elem ≡ false
  pub bare : IsForBare (stanza_of elem)
  pub fair : (t : SessionInfo) (h : ServerState ItemOut) → stanza_condition (stanza_of elem) t h ≡ None

-- it is a stanza by its name
pub record IsForClient (z : ItemOut) : Type 0 where
  pub elem : Elem
  pub whole : z ≡ Whole elem
  pub stanza : is_stanza elem ≡ true
