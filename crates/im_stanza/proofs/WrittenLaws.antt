-- What is written of a stanza is read back.
use Rattle.std.proofs.Common.{◌≡◌, ℕ, List, [], ◌∷◌, Option, Some, None, Ok, refl, sym, ◌∙◌, ap, append-nil, codes, unwrap_or, subst, FitsSigned, w8, ℤ, pos, inl, inr}
use Rattle.std.specs.Fmt.{signed_decimal}
use Rattle.std.specs.Ordering.{int_eq}
use Rattle.std.proofs.lemmas.Bool.{cases_Bool}
use Rattle.std.proofs.lemmas.Bool.Decides.{Decides-int_eq}
use Rattle.xml_trees.specs.Readers.{first_named, text_of}
use Rattle.xml_trees.specs.Tidied.{tidied, tidied_nodes, text_node}
use Rattle.xml_trees.specs.Trees.{AreTidy, element, no_nodes, child}
use Rattle.xml_trees.proofs.TidyLaws.{tidied_nodes_stay, text_node_some}
use Rattle.im_stanza.proofs.KindLemmas.{message_reads, spelled_is, presence_kind_is}
use Rattle.im_stanza.proofs.Priorities.{printed, printed_some}
use Rattle.im_stanza.proofs.ReadingLaws.{message_law, presence_law, iq_law}
use Rattle.im_stanza.proofs.WrittenAttrs.{from_written, id_written, to_written, type_written, lang_written, attr_tidied, attrs_stay}
use Rattle.im_stanza.specs.Kinds.{message_type, message_kind_named, IsMessageKind, presence_type, IsPresenceKind, iq_type}
use Rattle.im_stanza.specs.Names.{client_ns, xml_ns}
use Rattle.im_stanza.specs.Priority.{priority_in, priority_of}
use Rattle.im_stanza.specs.Readings.{stanza_of}
use Rattle.im_stanza.specs.Stanzas.{IsAddressOf, IsMessage, IsPresence, IsIq}
use Rattle.im_stanza.specs.Views.{MessageView, IqView}
use Rattle.im_stanza.specs.Written.{IsNormal, unless_empty, message_elem, presence_elem, iq_elem, priority_nodes}
use Rattle.im_stanza.specs.declared.kinds.MessageKind.TheVariants.{Normal}
use Rattle.im_stanza.specs.declared.kinds.PresenceKind.{PresenceKind}
use Rattle.im_stanza.specs.declared.kinds.PresenceKind.TheVariants.{Available, Unavailable, Error, Other}
use Rattle.im_stanza.specs.declared.stanzas.Presence.{Presence as PresenceView}
use Rattle.im_stanza.specs.declared.stanzas.Stanza.TheVariants.{Message, Presence, Iq}

normal_address : (address : Option (List ℕ)) → IsNormal address → IsAddressOf address address
normal_address None h = refl
normal_address (Some form) h = (form, h, refl)

address_again : (attribute address : Option (List ℕ)) → attribute ≡ address → IsNormal address → IsAddressOf attribute address
address_again attribute address is h = rw is (normal_address address h)

empty_again : (t : List ℕ) → unwrap_or (unless_empty t) [] ≡ t
empty_again [] = refl
empty_again (c ∷ cs) = refl

id_again : (given : Option (List ℕ)) (t : List ℕ) → given ≡ unless_empty t → t ≡ unwrap_or given []
id_again given t is = sym (ap (λ o. unwrap_or o []) is ∙ empty_again t)

module _ (m : MessageView) where
  message_is : IsNormal m.from → IsNormal m.to → IsMessage (tidied (message_elem m)) (record m { payload = tidied_nodes m.payload })
  message_is from to =
      let e = message_elem m in
      let id = unless_empty m.id in
      let kind = Some (message_type m.kind) in
      let lang = unless_empty m.lang in
      let P : Option (List ℕ) → Type 0 = λ given. IsMessageKind given m.kind in record {
        named = (refl, refl);
        from = address_again _ m.from (attr_tidied [] (codes "from") e ∙ from_written m.from id m.to kind lang) from;
        to = address_again _ m.to (attr_tidied [] (codes "to") e ∙ to_written m.from id m.to kind lang) to;
        id = id_again _ m.id (attr_tidied [] (codes "id") e ∙ id_written m.from id m.to kind lang);
        kind = subst P (sym (attr_tidied [] (codes "type") e ∙ type_written m.from id m.to kind lang)) (spelled_is message_type Normal message_kind_named message_reads m.kind);
        lang = id_again _ m.lang (attr_tidied xml_ns (codes "lang") e ∙ lang_written m.from id m.to kind lang);
        payload = refl;
      }

  pub message_tidied : IsNormal m.from → IsNormal m.to → stanza_of (tidied (message_elem m)) ≡ Ok (Message (record m { payload = tidied_nodes m.payload }))
  message_tidied from to = (message_law _ _).1 (message_is from to)

  pub message_stays : AreTidy m.payload → tidied (message_elem m) ≡ message_elem m
  message_stays tidy = λ i. element client_ns (codes "message") (attrs_stay m.from (unless_empty m.id) m.to (Some (message_type m.kind)) (unless_empty m.lang) i) (tidied_nodes_stay m.payload tidy i)

  pub message_read : IsNormal m.from → IsNormal m.to → AreTidy m.payload → stanza_of (message_elem m) ≡ Ok (Message m)
  message_read from to tidy =
      sym (ap stanza_of (message_stays tidy)) ∙ message_tidied from to ∙ ap (λ nodes. Ok (Message (record m { payload = nodes }))) (tidied_nodes_stay m.payload tidy)

module _ (q : IqView) where
  iq_is : IsNormal q.from → IsNormal q.to → IsIq (tidied (iq_elem q)) (record q { payload = tidied_nodes q.payload })
  iq_is from to =
      let e = iq_elem q in
      let kind = Some (iq_type q.kind) in record {
        named = (refl, refl);
        from = address_again _ q.from (attr_tidied [] (codes "from") e ∙ from_written q.from (Some q.id) q.to kind None) from;
        to = address_again _ q.to (attr_tidied [] (codes "to") e ∙ to_written q.from (Some q.id) q.to kind None) to;
        id = attr_tidied [] (codes "id") e ∙ id_written q.from (Some q.id) q.to kind None;
        kind = attr_tidied [] (codes "type") e ∙ type_written q.from (Some q.id) q.to kind None;
        payload = refl;
      }

  pub iq_tidied : IsNormal q.from → IsNormal q.to → stanza_of (tidied (iq_elem q)) ≡ Ok (Iq (record q { payload = tidied_nodes q.payload }))
  iq_tidied from to = (iq_law _ _).1 (iq_is from to)

  pub iq_stays : AreTidy q.payload → tidied (iq_elem q) ≡ iq_elem q
  iq_stays tidy = λ i. element client_ns (codes "iq") (attrs_stay q.from (Some q.id) q.to (Some (iq_type q.kind)) None i) (tidied_nodes_stay q.payload tidy i)

  pub iq_read : IsNormal q.from → IsNormal q.to → AreTidy q.payload → stanza_of (iq_elem q) ≡ Ok (Iq q)
  iq_read from to tidy =
      sym (ap stanza_of (iq_stays tidy)) ∙ iq_tidied from to ∙ ap (λ nodes. Ok (Iq (record q { payload = nodes }))) (tidied_nodes_stay q.payload tidy)

-- the priority of a presence

text_again : (t : List ℕ) → text_of (text_node t) ≡ t
text_again [] = refl
text_again (c ∷ cs) = append-nil (c ∷ cs)

priority_again : (n : ℤ) → FitsSigned w8 n → n ≡ priority_in (first_named client_ns (codes "priority") (tidied_nodes (priority_nodes n)))
priority_again n fits =
    elim (cases_Bool (int_eq n (pos 0))) [
      | inl e ↦ rw e ((Decides-int_eq n (pos 0)).0 e)
      | inr e ↦ rw e (sym (ap priority_of (text_again (signed_decimal n)) ∙ printed n fits))
    ]

priority_stays : (n : ℤ) → FitsSigned w8 n → tidied_nodes (priority_nodes n) ≡ priority_nodes n
priority_stays n fits =
    elim (cases_Bool (int_eq n (pos 0))) [
      | inl e ↦ rw e refl
      | inr e ↦ rw e (ap (λ t. child (element client_ns (codes "priority") [] t) no_nodes) (text_node_some (signed_decimal n) (printed_some n fits)))
    ]

presence_kind_again : (k : PresenceKind) → IsPresenceKind (presence_type k) k
presence_kind_again Available = presence_kind_is (presence_type Available)
presence_kind_again Unavailable = presence_kind_is (presence_type Unavailable)
presence_kind_again Error = presence_kind_is (presence_type Error)
presence_kind_again Other = presence_kind_is (presence_type Other)

module _ (p : PresenceView) where
  presence_is : IsNormal p.from → IsNormal p.to → FitsSigned w8 p.priority → IsPresence (tidied (presence_elem p)) p
  presence_is from to fits =
      let e = presence_elem p in
      let id = unless_empty p.id in
      let kind = presence_type p.kind in
      let P : Option (List ℕ) → Type 0 = λ given. IsPresenceKind given p.kind in record {
        named = (refl, refl);
        from = address_again _ p.from (attr_tidied [] (codes "from") e ∙ from_written p.from id p.to kind None) from;
        to = address_again _ p.to (attr_tidied [] (codes "to") e ∙ to_written p.from id p.to kind None) to;
        id = id_again _ p.id (attr_tidied [] (codes "id") e ∙ id_written p.from id p.to kind None);
        kind = subst P (sym (attr_tidied [] (codes "type") e ∙ type_written p.from id p.to kind None)) (presence_kind_again p.kind);
        priority = priority_again p.priority fits;
      }

  pub presence_stays : FitsSigned w8 p.priority → tidied (presence_elem p) ≡ presence_elem p
  presence_stays fits = λ i. element client_ns (codes "presence") (attrs_stay p.from (unless_empty p.id) p.to (presence_type p.kind) None i) (priority_stays p.priority fits i)

  pub presence_tidied : IsNormal p.from → IsNormal p.to → FitsSigned w8 p.priority → stanza_of (tidied (presence_elem p)) ≡ Ok (Presence p)
  presence_tidied from to fits = (presence_law _ _).1 (presence_is from to fits)

  pub presence_read : IsNormal p.from → IsNormal p.to → FitsSigned w8 p.priority → stanza_of (presence_elem p) ≡ Ok (Presence p)
  presence_read from to fits = sym (ap stanza_of (presence_stays fits)) ∙ presence_tidied from to fits
