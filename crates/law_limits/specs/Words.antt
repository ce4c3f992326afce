-- What is known of the words that an element is read as, and of stanzas.
use Rattle.std.specs.Prelude.{ℕ, ◌≡◌, ◌<◌, ◌^◌, false, List, ◌∷◌, Some, IfSome, Result, Ok, Err, codes}
use Rattle.srv_state.specs.declared.word.Word.{Word}
use Rattle.srv_state.specs.declared.word.Word.TheVariants as word
use Rattle.law_xml.specs.Plain.{IsPlain}
use Rattle.im_payload.specs.Names.{binding}
use Rattle.im_payload.specs.Shapes.{attr_or_empty}
use Rattle.law_limits.specs.Messages.{MessageFits}
use Rattle.law_limits.specs.Keeps.{IsShort}
use Rattle.srv_handlers.specs.Bindings.{asked_resource}
use Rattle.law_limits.specs.Texts.{Said}
use Rattle.im_stanza.specs.Views.{IqView}
use Rattle.im_stanza.specs.declared.fault.StanzaFault.{StanzaFault}
use Rattle.im_stanza.specs.declared.fault.StanzaFault.TheVariants as fault
use Rattle.im_stanza.specs.declared.stanzas.Presence.{Presence}
use Rattle.im_stanza.specs.declared.stanzas.Stanza.{Stanza}
use Rattle.im_stanza.specs.declared.stanzas.Stanza.TheVariants as stanza
use Rattle.xml_tokens.specs.Lines.{IsCharacters}
use Rattle.xml_trees.specs.Readers.{elements_of, first_named}
use Rattle.xml_trees.specs.Trees.{Elem}

-- ---- a stanza that is handled

pub record IqFits (q : IqView) : Type 0 where
  pub id : Said 1048576 q.id
  pub to : IfSome q.to (Said 18426)
  pub value : (name : List ℕ) (e : Elem) (more : List Elem) → elements_of q.payload ≡ e ∷ more → Said 1048576 (attr_or_empty name e)

pub record PresenceFits (p : Presence) : Type 0 where
  pub id : Said 1048576 p.id
  pub to : IfSome p.to (Said 18426)

pub record BadToFits (id to : List ℕ) : Type 0 where
  pub the_id : Said 1048576 id
  pub the_to : Said 1048576 to

abbrev pub ReadFits : Result Stanza StanzaFault → Type 0
ReadFits (Ok (stanza.Message m)) = MessageFits m
ReadFits (Ok (stanza.Presence p)) = PresenceFits p
ReadFits (Ok (stanza.Iq q)) = IqFits q
ReadFits (Err (fault.BadTo message reply from id to)) = BadToFits id to
ReadFits read = Unit {0}

-- ---- one that asks for a resource, however long it is

pub record BindFits (q : IqView) : Type 0 where
  pub id : Said 393216 q.id
  pub resource : (bind : Elem) → first_named binding (codes "bind") q.payload ≡ Some bind → IsCharacters (asked_resource bind)

abbrev pub BindsFit : Result Stanza StanzaFault → Type 0
BindsFit (Ok (stanza.Iq q)) = BindFits q
BindsFit read = Unit {0}

-- ---- words

abbrev pub WordComes : Word → Type 0
WordComes (word.Stanza long read) = (long ≡ false → ReadFits read) × BindsFit read
WordComes (word.Auth e bad) = IsPlain e × IsShort e
WordComes (word.Resume previd h) = h < 2 ^ 32
WordComes (word.Ack h) = h < 2 ^ 32
WordComes w = Unit {0}
