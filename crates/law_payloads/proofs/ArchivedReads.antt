-- The message in which an archive sends an archived one is read as a message of the type `normal`, and what it contains as
-- it was written.
use Rattle.std.proofs.Common.{◌≡◌, ℕ, List, [], Option, Some, None, unwrap_or, Ok, codes, refl, sym, ap, ◌∙◌, subst}
use Rattle.im_jid.specs.Normal.{normal}
use Rattle.im_mam.proofs.ResultLaws.{result_tree}
use Rattle.im_mam.specs.ArchiveAnswers.{WritesMamResult}
use Rattle.im_mam.specs.Readings.{result_read}
use Rattle.im_mam.specs.declared.archive_answers.MamResult.{MamResult}
use Rattle.law_payloads.proofs.ForwardReads.{result_written}
use Rattle.law_payloads.specs.Archived.{archived_elem}
use Rattle.law_payloads.specs.AsRead.{result_as_read}
use Rattle.im_stanza.proofs.KindLemmas.{no_kind_is}
use Rattle.im_stanza.proofs.ReadingLaws.{message_law}
use Rattle.im_stanza.proofs.WrittenAttrs.{attr_tidied, from_written, id_written, lang_written, to_written, type_written}
use Rattle.im_stanza.specs.Kinds.{IsMessageKind, message_type}
use Rattle.im_stanza.specs.Names.{xml_ns}
use Rattle.im_stanza.specs.Readings.{stanza_of}
use Rattle.im_stanza.specs.Stanzas.{IsAddressOf, IsMessage, attr_named}
use Rattle.im_stanza.specs.Views.{MessageView}
use Rattle.im_stanza.specs.declared.kinds.MessageKind.TheVariants.{Normal}
use Rattle.im_stanza.specs.declared.stanzas.Stanza.TheVariants.{Message}
use Rattle.xml_trees.specs.Readers.{attr_of}
use Rattle.xml_trees.specs.Tidied.{tidied}
use Rattle.xml_trees.specs.Trees.{Elem, no_nodes, child}

module _ (from to : List ℕ) (result : Elem) where
  abbrev sent : Elem
  sent = archived_elem from to result

  from_sent : attr_named (codes "from") (tidied sent) ≡ Some from
  from_sent = attr_tidied [] (codes "from") sent ∙ from_written (Some from) None (Some to) None None

  to_sent : attr_named (codes "to") (tidied sent) ≡ Some to
  to_sent = attr_tidied [] (codes "to") sent ∙ to_written (Some from) None (Some to) None None

  id_sent : attr_named (codes "id") (tidied sent) ≡ None
  id_sent = attr_tidied [] (codes "id") sent ∙ id_written (Some from) None (Some to) None None

  pub type_sent : attr_named (codes "type") (tidied sent) ≡ None
  type_sent = attr_tidied [] (codes "type") sent ∙ type_written (Some from) None (Some to) None None

  lang_sent : attr_of xml_ns (codes "lang") (tidied sent) ≡ None
  lang_sent = attr_tidied xml_ns (codes "lang") sent ∙ lang_written (Some from) None (Some to) None None

  abbrev read : List ℕ → List ℕ → MessageView
  read sender recipient = record { from = Some sender; to = Some recipient; id = []; kind = Normal; lang = []; payload = child (tidied result) no_nodes }

  archived : (sender recipient : List ℕ) → normal from ≡ Ok sender → normal to ≡ Ok recipient → IsMessage (tidied sent) (read sender recipient)
  archived sender recipient from_is to_is = record {
    named = (refl, refl);
    from = subst (λ given. IsAddressOf given (Some sender)) (sym from_sent) (sender, from_is, refl);
    to = subst (λ given. IsAddressOf given (Some recipient)) (sym to_sent) (recipient, to_is, refl);
    id = sym (ap (λ o. unwrap_or o []) id_sent);
    kind = subst (λ given. IsMessageKind given Normal) (sym type_sent) (no_kind_is message_type Normal);
    lang = sym (ap (λ o. unwrap_or o []) lang_sent);
    payload = refl;
  }

  pub archived_read : (sender recipient : List ℕ) → normal from ≡ Ok sender → normal to ≡ Ok recipient → stanza_of (tidied sent) ≡ Ok (Message (read sender recipient))
  archived_read sender recipient from_is to_is = (message_law (tidied sent) (read sender recipient)).1 (archived sender recipient from_is to_is)

pub archived_result : (v : MamResult) (e : Elem) → WritesMamResult v e → result_read (tidied e) ≡ Ok (result_as_read v)
archived_result v e w = result_written v (tidied e) (result_tree v e (tidied e) w refl)
