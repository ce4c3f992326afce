-- Stanzas are read as they were built, whatever they contain.
use Rattle.std.proofs.Common.{◌≡◌, ℕ, List, [], Option, Some, None, Ok, refl, sym, ◌∙◌, ap, unwrap_or, subst}
use Rattle.sim_3_items.proofs.ItemsUp.{empty_again}
use Rattle.im_stanza.proofs.KindLemmas.{message_reads, no_kind_is, spelled_is}
use Rattle.im_stanza.proofs.ReadingLaws.{iq_law, message_law}
use Rattle.im_stanza.proofs.WrittenAttrs.{from_written, id_written, lang_written, to_written, type_written}
use Rattle.im_stanza.specs.Kinds.{IsMessageKind, iq_type, message_kind_named, message_type}
use Rattle.im_stanza.specs.Readings.{stanza_of}
use Rattle.im_stanza.specs.Stanzas.{IsAddressOf, IsIq, IsMessage}
use Rattle.im_stanza.specs.Views.{IqView, MessageView}
use Rattle.im_stanza.specs.Written.{IsNormal, iq_elem, message_elem, unless_empty}
use Rattle.im_stanza.specs.declared.kinds.MessageKind.TheVariants.{Normal}
use Rattle.im_stanza.specs.declared.stanzas.Stanza.TheVariants.{Iq, Message}
use Rattle.law_payloads.specs.Archived.{archived_elem}
use Rattle.xml_trees.specs.Trees.{Elem, child, no_nodes}

normal_address : (address : Option (List ℕ)) → IsNormal address → IsAddressOf address address
normal_address None h = refl
normal_address (Some form) h = (form, h, refl)

pub address_again : (given address : Option (List ℕ)) → given ≡ address → IsNormal address → IsAddressOf given address
address_again given address is h = subst (λ o. IsAddressOf o address) (sym is) (normal_address address h)

-- ---- messages

module _ (m : MessageView) (from : IsNormal m.from) (to : IsNormal m.to) where
  message_is : IsMessage (message_elem m) m
  message_is =
      let id = unless_empty m.id in
      let kind = Some (message_type m.kind) in
      let lang = unless_empty m.lang in record {
        named = (refl, refl);
        from = address_again _ m.from (from_written m.from id m.to kind lang) from;
        to = address_again _ m.to (to_written m.from id m.to kind lang) to;
        id = (sym (ap (λ o. unwrap_or o []) (id_written m.from id m.to kind lang) ∙ empty_again m.id));
        kind = subst (λ given. IsMessageKind given m.kind) (sym (type_written m.from id m.to kind lang)) (spelled_is message_type Normal message_kind_named message_reads m.kind);
        lang = (sym (ap (λ o. unwrap_or o []) (lang_written m.from id m.to kind lang) ∙ empty_again m.lang));
        payload = refl;
      }

  pub message_read : stanza_of (message_elem m) ≡ Ok (Message m)
  message_read = (message_law (message_elem m) m).1 message_is

-- the message in which an archive sends a result has no type
module _ (from to : List ℕ) (result : Elem) (sender : IsNormal (Some from)) (addressee : IsNormal (Some to)) where
  abbrev pub archived : MessageView
  archived = record { from = Some from; to = Some to; id = []; kind = Normal; lang = []; payload = child result no_nodes }

  archived_is : IsMessage (archived_elem from to result) archived
  archived_is = record {
    named = (refl, refl);
    from = address_again _ (Some from) (from_written (Some from) None (Some to) None None) sender;
    to = address_again _ (Some to) (to_written (Some from) None (Some to) None None) addressee;
    id = (sym (ap (λ o. unwrap_or o []) (id_written (Some from) None (Some to) None None) ∙ empty_again []));
    kind = subst (λ given. IsMessageKind given Normal) (sym (type_written (Some from) None (Some to) None None)) (no_kind_is message_type Normal);
    lang = (sym (ap (λ o. unwrap_or o []) (lang_written (Some from) None (Some to) None None) ∙ empty_again []));
    payload = refl;
  }

  pub archived_read : stanza_of (archived_elem from to result) ≡ Ok (Message archived)
  archived_read = (message_law (archived_elem from to result) archived).1 archived_is

-- ---- answers

module _ (q : IqView) (from : IsNormal q.from) (to : IsNormal q.to) where
  iq_is : IsIq (iq_elem q) q
  iq_is =
      let kind = Some (iq_type q.kind) in record {
        named = (refl, refl);
        from = address_again _ q.from (from_written q.from (Some q.id) q.to kind None) from;
        to = address_again _ q.to (to_written q.from (Some q.id) q.to kind None) to;
        id = id_written q.from (Some q.id) q.to kind None;
        kind = type_written q.from (Some q.id) q.to kind None;
        payload = refl;
      }

  pub iq_read : stanza_of (iq_elem q) ≡ Ok (Iq q)
  iq_read = (iq_law (iq_elem q) q).1 iq_is
