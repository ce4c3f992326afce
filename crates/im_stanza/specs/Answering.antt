-- What answers a stanza with an error (RFC 6120, section 8.3.1).
use Rattle.std.specs.Prelude.{ℕ, List, Option, Some, None, codes}
use Rattle.im_stanza.specs.Errors.{error_elem}
use Rattle.im_stanza.specs.Kinds.{iq_type, message_type, presence_type}
use Rattle.im_stanza.specs.Names.{client_ns}
use Rattle.im_stanza.specs.Written.{attrs_written, unless_empty}
use Rattle.im_stanza.specs.declared.errors.StanzaError.{StanzaError}
use Rattle.im_stanza.specs.declared.kinds.IqKind.TheVariants as iq
use Rattle.im_stanza.specs.declared.kinds.MessageKind.TheVariants.{Error}
use Rattle.im_stanza.specs.declared.kinds.PresenceKind.TheVariants as presence
use Rattle.xml_trees.specs.Trees.{Elem, element, no_nodes, child}

-- the answer to a message: it comes from where the message went, has its id where that isn't empty, and no `to`
abbrev pub bounce_elem : List ℕ → List ℕ → StanzaError → Elem
bounce_elem from id e =
    element client_ns (codes "message") (attrs_written (Some from) (unless_empty id) None (Some (message_type Error)) None) (child (error_elem e) no_nodes)

-- the answer to a presence, of the same form
abbrev pub presence_bounce_elem : List ℕ → List ℕ → StanzaError → Elem
presence_bounce_elem from id e =
    element client_ns (codes "presence") (attrs_written (Some from) (unless_empty id) None (presence_type presence.Error) None) (child (error_elem e) no_nodes)

-- the answer to an `iq`: it has that one's id, and the addresses that are given
abbrev pub iq_error_elem : Option (List ℕ) → Option (List ℕ) → List ℕ → StanzaError → Elem
iq_error_elem from to id e =
    element client_ns (codes "iq") (attrs_written from (Some id) to (Some (iq_type iq.Error)) None) (child (error_elem e) no_nodes)
