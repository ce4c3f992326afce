-- What answers with an error is a tree as it stands.
use Rattle.std.proofs.Common.{◌≡◌, ℕ, List, Option, Some, None, ap, codes, refl}
use Rattle.im_extensions.specs.Counts.{too_high_elem}
use Rattle.im_stanza.proofs.WrittenAttrs.{attrs_stay}
use Rattle.im_stanza.specs.Answering.{bounce_elem, iq_error_elem, presence_bounce_elem}
use Rattle.im_stanza.specs.Errors.{error_elem, stream_error_elem}
use Rattle.im_stanza.specs.Kinds.{iq_type, message_type, presence_type}
use Rattle.im_stanza.specs.Names.{client_ns}
use Rattle.im_stanza.specs.Written.{unless_empty}
use Rattle.im_stanza.specs.declared.errors.StanzaError.{StanzaError}
use Rattle.im_stanza.specs.declared.kinds.IqKind.TheVariants as iq
use Rattle.im_stanza.specs.declared.kinds.MessageKind.TheVariants as message
use Rattle.im_stanza.specs.declared.kinds.PresenceKind.TheVariants as presence
use Rattle.xml_trees.specs.Tidied.{tidied}
use Rattle.xml_trees.specs.Trees.{element, no_nodes, child}

pub iq_error_stays : (from to : Option (List ℕ)) (id : List ℕ) (e : StanzaError) → tidied (iq_error_elem from to id e) ≡ iq_error_elem from to id e
iq_error_stays from to id e =
    ap (λ attrs. element client_ns (codes "iq") attrs (child (error_elem e) no_nodes)) (attrs_stay from (Some id) to (Some (iq_type iq.Error)) None)

pub bounce_stays : (from id : List ℕ) (e : StanzaError) → tidied (bounce_elem from id e) ≡ bounce_elem from id e
bounce_stays from id e =
    ap (λ attrs. element client_ns (codes "message") attrs (child (error_elem e) no_nodes)) (attrs_stay (Some from) (unless_empty id) None (Some (message_type message.Error)) None)

pub presence_bounce_stays : (from id : List ℕ) (e : StanzaError) → tidied (presence_bounce_elem from id e) ≡ presence_bounce_elem from id e
presence_bounce_stays from id e =
    ap (λ attrs. element client_ns (codes "presence") attrs (child (error_elem e) no_nodes)) (attrs_stay (Some from) (unless_empty id) None (presence_type presence.Error) None)

pub too_high_stays : (h send_count : ℕ) → tidied (stream_error_elem (codes "undefined-condition") (Some (too_high_elem h send_count))) ≡ stream_error_elem (codes "undefined-condition") (Some (too_high_elem h send_count))
too_high_stays h send_count = refl
