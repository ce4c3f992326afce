-- What is read of tidied elements, and of messages and presences that are sent back.
use Rattle.std.proofs.Common.{◌≡◌, ◌≢◌, ℕ, List, [], ◌∷◌, ◌++◌, Some, None, Ok, Err, unwrap_or, codes, map, pos, refl, sym, ap, ◌∙◌, subst}
use Rattle.im_jid.specs.Normal.{normal}
use Rattle.im_jid.specs.declared.fault.JidFault.{JidFault}
use Rattle.im_stanza.proofs.ErrorLaws.{error_read_back}
use Rattle.im_stanza.proofs.KindLemmas.{message_reads, presence_kind_is, spelled_is}
use Rattle.im_stanza.proofs.ReadingLaws.{bad_from_law, message_law, presence_law}
use Rattle.im_stanza.proofs.WrittenAttrs.{attr_tidied, from_written, id_written, lang_written, to_written, type_written}
use Rattle.im_stanza.specs.Answering.{bounce_elem, presence_bounce_elem}
use Rattle.im_stanza.specs.Conditions.{IsPlain, condition_name}
use Rattle.im_stanza.specs.Errors.{error_elem, stanza_error_of}
use Rattle.im_stanza.specs.Kinds.{IsMessageKind, IsPresenceKind, message_kind_named, message_type, presence_type}
use Rattle.im_stanza.specs.Names.{xml_ns}
use Rattle.im_stanza.specs.Readings.{stanza_of}
use Rattle.im_stanza.specs.Stanzas.{IsAddressOf, IsBadFrom, IsMessage, IsPresence, attr_named}
use Rattle.im_stanza.specs.Views.{MessageView}
use Rattle.im_stanza.specs.Written.{unless_empty}
use Rattle.im_stanza.specs.declared.errors.StanzaError.{StanzaError}
use Rattle.im_stanza.specs.declared.fault.StanzaFault.TheVariants.{BadFrom}
use Rattle.im_stanza.specs.declared.kinds.MessageKind.TheVariants.{Normal, Error}
use Rattle.im_stanza.specs.declared.kinds.PresenceKind.TheVariants as presence
use Rattle.im_stanza.specs.declared.stanzas.Presence.{Presence as PresenceView}
use Rattle.im_stanza.specs.declared.stanzas.Stanza.TheVariants.{Message, Presence}
use Rattle.xml_trees.proofs.TidyReads.{elements_of-joined}
use Rattle.xml_trees.specs.Readers.{attr_of, elements_of}
use Rattle.xml_trees.specs.Tidied.{text_node, tidied, tidied_after, tidied_nodes}
use Rattle.xml_trees.specs.Trees.{Elem, element, Nodes, no_nodes, child, text, nodes_of}

-- ---- the elements of what is tidied

no_elements : (run : List ℕ) → elements_of (text_node run) ≡ []
no_elements [] = refl
no_elements (c ∷ cs) = refl

elements_after : (run : List ℕ) (ks : Nodes) → elements_of (tidied_after run ks) ≡ map tidied (elements_of ks)
elements_after run no_nodes = no_elements run
elements_after run (child e rest) =
    elements_of-joined (text_node run) (child (tidied e) (tidied_after [] rest))
    ∙ (λ i. no_elements run i ++ tidied e ∷ elements_after [] rest i)
elements_after run (text t rest) = elements_after (run ++ t) rest

pub elements_of_nodes : (ks : Nodes) → elements_of (tidied_nodes ks) ≡ map tidied (elements_of ks)
elements_of_nodes = elements_after []

pub elements_inside : (e : Elem) → elements_of (nodes_of (tidied e)) ≡ map tidied (elements_of (nodes_of e))
elements_inside (element ns name attrs kids) = elements_after [] kids

-- ---- messages that are sent back

empty_text_again : (t : List ℕ) → unwrap_or (unless_empty t) [] ≡ t
empty_text_again [] = refl
empty_text_again (c ∷ cs) = refl

module _ (from id : List ℕ) (error : StanzaError) where
  abbrev sent : Elem
  sent = bounce_elem from id error

  from_sent : attr_named (codes "from") (tidied sent) ≡ Some from
  from_sent = attr_tidied [] (codes "from") sent ∙ from_written (Some from) (unless_empty id) None (Some (message_type Error)) None

  to_sent : attr_named (codes "to") (tidied sent) ≡ None
  to_sent = attr_tidied [] (codes "to") sent ∙ to_written (Some from) (unless_empty id) None (Some (message_type Error)) None

  id_sent : attr_named (codes "id") (tidied sent) ≡ unless_empty id
  id_sent = attr_tidied [] (codes "id") sent ∙ id_written (Some from) (unless_empty id) None (Some (message_type Error)) None

  type_sent : attr_named (codes "type") (tidied sent) ≡ Some (message_type Error)
  type_sent = attr_tidied [] (codes "type") sent ∙ type_written (Some from) (unless_empty id) None (Some (message_type Error)) None

  lang_sent : attr_of xml_ns (codes "lang") (tidied sent) ≡ None
  lang_sent = attr_tidied xml_ns (codes "lang") sent ∙ lang_written (Some from) (unless_empty id) None (Some (message_type Error)) None

  abbrev read : List ℕ → MessageView
  read form = record { from = Some form; to = None; id = id; kind = Error; lang = []; payload = child (error_elem error) no_nodes }

  bounced : (form : List ℕ) → normal from ≡ Ok form → IsMessage (tidied sent) (read form)
  bounced form is = record {
    named = (refl, refl);
    from = subst (λ given. IsAddressOf given (Some form)) (sym from_sent) (form, is, refl);
    to = subst (λ given. IsAddressOf given None) (sym to_sent) refl;
    id = sym (ap (λ o. unwrap_or o []) id_sent ∙ empty_text_again id);
    kind = subst (λ given. IsMessageKind given Error) (sym type_sent) (spelled_is message_type Normal message_kind_named message_reads Error);
    lang = sym (ap (λ o. unwrap_or o []) lang_sent);
    payload = refl;
  }

  pub bounce_read : (form : List ℕ) → normal from ≡ Ok form → stanza_of (tidied sent) ≡ Ok (Message (read form))
  bounce_read form is = (message_law (tidied sent) (read form)).1 (bounced form is)

  pub bounce_error : IsPlain error.condition → condition_name error.condition ≢ codes "text" → stanza_error_of (tidied sent) ≡ Ok error
  bounce_error plain other = error_read_back (tidied sent) error refl plain other

  bad_sender : (why : JidFault) → normal from ≡ Err why → IsBadFrom (tidied sent)
  bad_sender why is = record {
    stanza = λ none. none.message (refl, refl);
    format = λ bad. let named = bad.named.1 in cc named;
    bad = record { value = from; why = why; there = from_sent; refused = is };
  }

  pub bounce_refused : (why : JidFault) → normal from ≡ Err why → stanza_of (tidied sent) ≡ Err BadFrom
  bounce_refused why is = (bad_from_law (tidied sent)).1 (bad_sender why is)

-- ---- presences that are sent back

module _ (from id : List ℕ) (error : StanzaError) where
  abbrev returned : Elem
  returned = presence_bounce_elem from id error

  abbrev presence_read : List ℕ → PresenceView
  presence_read form = record { from = Some form; to = None; id = id; kind = presence.Error; priority = pos 0 }

  returned_is : (form : List ℕ) → normal from ≡ Ok form → IsPresence (tidied returned) (presence_read form)
  returned_is form is =
      let kind = presence_type presence.Error in record {
        named = (refl, refl);
        from = subst (λ given. IsAddressOf given (Some form)) (sym (attr_tidied [] (codes "from") returned ∙ from_written (Some from) (unless_empty id) None kind None)) (form, is, refl);
        to = subst (λ given. IsAddressOf given None) (sym (attr_tidied [] (codes "to") returned ∙ to_written (Some from) (unless_empty id) None kind None)) refl;
        id = sym (ap (λ o. unwrap_or o []) (attr_tidied [] (codes "id") returned ∙ id_written (Some from) (unless_empty id) None kind None) ∙ empty_text_again id);
        kind = subst (λ given. IsPresenceKind given presence.Error) (sym (attr_tidied [] (codes "type") returned ∙ type_written (Some from) (unless_empty id) None kind None)) (presence_kind_is kind);
        priority = refl;
      }

  pub presence_bounce_read : (form : List ℕ) → normal from ≡ Ok form → stanza_of (tidied returned) ≡ Ok (Presence (presence_read form))
  presence_bounce_read form is = (presence_law (tidied returned) (presence_read form)).1 (returned_is form is)

  pub presence_bounce_error : IsPlain error.condition → condition_name error.condition ≢ codes "text" → stanza_error_of (tidied returned) ≡ Ok error
  presence_bounce_error plain other = error_read_back (tidied returned) error refl plain other
