-- What is read of an element that a framer gave.
use Rattle.std.proofs.Common.{◌≡◌, ℕ, ◌+◌, ◌<◌, ◌≤◌, ◌^◌, Bool, true, false, List, [], ◌∷◌, Option, Some, None, IfSome, Result, Ok, Err, cond, codes, length, unwrap_or, refl, ap, subst, sym, ◌∙◌, arith, inl, inr}
use Rattle.std.proofs.lemmas.Bool.{cases_Bool, ltb-false}
use Rattle.std.proofs.lemmas.Option.{same_Some}
use Rattle.std.specs.Option.{option_map}
use Rattle.srv_state.specs.Words.{if_read, is_bad_management, is_bad_sasl, is_long, is_stanza, is_stream_error, management_word, other_word, resume_word, sasl_word, word_of}
use Rattle.srv_state.specs.declared.limits.TheConstants.{MOST_STANZA_BYTES}
use Rattle.srv_state.specs.declared.word.Word.{Word}
use Rattle.srv_state.specs.declared.word.Word.TheVariants as word
use Rattle.im_extensions.specs.Readings.{resumption_read, resumption_with}
use Rattle.im_extensions.specs.StreamManagement.{ack_read, ack_with, count_of, enable_read, is_management}
use Rattle.im_extensions.specs.declared.stream_management.Ack.{Ack}
use Rattle.xml_framer.specs.declared.items.Item.TheVariants as item
use Rattle.law_xml.specs.Fitting.{NodesFit, TagsFit}
use Rattle.law_xml.specs.Plain.{ArePlainNodes, IsPlain, IsPlainElement}
use Rattle.im_payload.proofs.Numbers.{required_fits}
use Rattle.im_payload.specs.Names.{binding}
use Rattle.im_payload.specs.Readings.{where_this}
use Rattle.im_payload.specs.declared.fault.ExtFault.{ExtFault}
use Rattle.law_limits.proofs.Forwarding.{attribute_characters, le_self, text_characters}
use Rattle.law_limits.proofs.Requests.{inside_client}
use Rattle.law_limits.specs.Bounded.{client_tags}
use Rattle.law_limits.specs.Messages.{MessageFits}
use Rattle.im_login.specs.Sasl.{is_sasl}
use Rattle.law_limits.specs.Keeps.{Comes, IsShort}
use Rattle.law_limits.specs.Words.{BadToFits, BindFits, BindsFit, IqFits, PresenceFits, ReadFits, WordComes}
use Rattle.law_limits.proofs.SizesOfAddresses.{normal_said}
use Rattle.law_limits.proofs.Characters.{printable_characters, said_word}
use Rattle.law_limits.proofs.ElementSizes.{child_size, nodes_within, texts_size, value_and_nodes}
use Rattle.law_limits.proofs.TextSizes.{value_nothing, value_short}
use Rattle.law_limits.specs.Elements.{element_size, nodes_size}
use Rattle.law_limits.specs.Texts.{Said, value_size}
use Rattle.im_stanza.proofs.ReadingLaws.{bad_to_law, iq_law, message_law, presence_law}
use Rattle.im_stanza.specs.Names.{client_ns, xml_ns}
use Rattle.im_stanza.specs.Readings.{stanza_of}
use Rattle.im_stanza.specs.Stanzas.{IsAddressOf, IsBadTo, IsIq, IsMessage, IsPresence, attr_named}
use Rattle.im_stanza.specs.Views.{IqView, MessageView}
use Rattle.im_stanza.specs.declared.fault.StanzaFault.{StanzaFault}
use Rattle.im_stanza.specs.declared.fault.StanzaFault.TheVariants as fault
use Rattle.im_stanza.specs.declared.stanzas.Presence.{Presence}
use Rattle.im_stanza.specs.declared.stanzas.Stanza.{Stanza}
use Rattle.im_stanza.specs.declared.stanzas.Stanza.TheVariants as stanza
use Rattle.xml_tokens.specs.Lines.{IsCharacters}
use Rattle.xml_trees.proofs.TidyReads.{nodes_of_tree}
use Rattle.xml_trees.specs.Readers.{attr_of, child_of, elements_of, first_named, is_named, text_of}
use Rattle.xml_trees.specs.Trees.{AreTidy, Elem, IsTree, Nodes, child, depth, depth_below, element, namespace_of, no_nodes, nodes_of, text}
use Rattle.xml_writer.specs.Canon.{canon, default_inside}

-- ---- the parts of an element

pub plain_inside : (e : Elem) → IsPlainElement e → ArePlainNodes (nodes_of e)
plain_inside (element ns name attrs kids) h = h.2

tags_inside : (e : Elem) → TagsFit client_tags client_ns e → NodesFit client_tags (default_inside client_ns (namespace_of e)) (nodes_of e)
tags_inside (element ns name attrs kids) h = h.1

depth_inside : (e : Elem) → depth e ≡ depth_below (nodes_of e) + 1
depth_inside (element ns name attrs kids) = refl

inside_is : (e : Elem) → namespace_of e ≡ client_ns → default_inside client_ns (namespace_of e) ≡ client_ns
inside_is e own = ap (default_inside client_ns) own ∙ inside_client client_ns

-- ---- an element that isn't too long

record IsHandled (e : Elem) : Type 0 where
  tree : IsTree e
  plain : IsPlainElement e
  tags : TagsFit client_tags client_ns e
  shallow : depth e ≤ 32
  short : element_size client_ns e ≤ 1048576

handled : (e : Elem) → Comes (item.Element e) → is_long e ≡ false → IsHandled e
unfolding element_size
handled e h long =
    let short : length (canon e) ≤ 1048576 = ltb-false MOST_STANZA_BYTES (length (canon e)) long in
    let passes = h.1 short in
    record { tree = passes.0; plain = passes.1.inside; tags = passes.2.tags; shallow = passes.2.shallow; short = short }

attribute_said : (name : List ℕ) (e : Elem) (v : List ℕ) → IsHandled e → attr_named name e ≡ Some v → Said 1048576 v
attribute_said name e v h is =
    let size = value_and_nodes client_ns [] name e v is in
    let short = h.short in
    record { characters = attribute_characters [] name e v h.plain is; short = omega (arith, size, short) }

or_empty_said : (name : List ℕ) (e : Elem) (o : Option (List ℕ)) → IsHandled e → attr_named name e ≡ o → Said 1048576 (unwrap_or o [])
or_empty_said name e None h is = said_word 1048576 [] refl refl
or_empty_said name e (Some v) h is = attribute_said name e v h is

language_said : (e : Elem) (o : Option (List ℕ)) → IsHandled e → attr_of xml_ns (codes "lang") e ≡ o → Said 1048576 (unwrap_or o [])
language_said e None h is = said_word 1048576 [] refl refl
language_said e (Some v) h is =
    let size = value_and_nodes client_ns xml_ns (codes "lang") e v is in
    let short = h.short in
    record { characters = attribute_characters xml_ns (codes "lang") e v h.plain is; short = omega (arith, size, short) }

address_fits : (name : List ℕ) (e : Elem) (given address : Option (List ℕ)) → IsPlainElement e → attr_named name e ≡ given → IsAddressOf given address → IfSome address (Said 18426)
address_fits name e None address h is none = subst (λ o. IfSome o (Said 18426)) (sym none) tt
address_fits name e (Some value) address h is some =
    subst (λ o. IfSome o (Said 18426)) (sym some.2) (normal_said value some.0 (attribute_characters [] name e value h is) some.1)

-- ---- messages

id_and_payload : (e : Elem) (o : Option (List ℕ)) → IsHandled e → namespace_of e ≡ client_ns → attr_named (codes "id") e ≡ o → value_size (unwrap_or o []) + nodes_size client_ns (nodes_of e) ≤ 1048576
id_and_payload e None h own is =
    let inside = subst (λ d. nodes_size d (nodes_of e) ≤ element_size client_ns e) (inside_is e own) (nodes_within client_ns e) in
    let short = h.short in
    let none = value_nothing in
    omega (arith, inside, short, none)
id_and_payload e (Some v) h own is =
    let inside = subst (λ d. value_size v + nodes_size d (nodes_of e) ≤ element_size client_ns e) (inside_is e own) (value_and_nodes client_ns [] (codes "id") e v is) in
    let short = h.short in
    omega (arith, inside, short)

message_fits : (e : Elem) (m : MessageView) → IsHandled e → IsMessage e m → MessageFits m
message_fits e m h is =
    let own = is.named.0 in
    let same = is.payload in
    let deep = h.shallow in
    let said = or_empty_said (codes "id") e (attr_named (codes "id") e) h refl in
    let id : m.id ≡ unwrap_or (attr_named (codes "id") e) [] = is.id in
    record {
      from = address_fits (codes "from") e (attr_named (codes "from") e) m.from h.plain refl is.from;
      to = address_fits (codes "to") e (attr_named (codes "to") e) m.to h.plain refl is.to;
      id_bytes = value_size m.id;
      payload_bytes = nodes_size client_ns m.payload;
      within = subst (λ ks. value_size m.id + nodes_size client_ns ks ≤ 1048576) (sym same) (subst (λ i. value_size i + nodes_size client_ns (nodes_of e) ≤ 1048576) (sym id) (id_and_payload e (attr_named (codes "id") e) h own refl));
      id = record { characters = subst IsCharacters (sym id) said.characters; short = le_self (value_size m.id) };
      lang = subst (Said 1048576) (sym is.lang) (language_said e (attr_of xml_ns (codes "lang") e) h refl);
      payload = record {
        plain = subst ArePlainNodes (sym same) (plain_inside e h.plain);
        tags = subst (NodesFit client_tags client_ns) (sym same) (subst (λ d. NodesFit client_tags d (nodes_of e)) (inside_is e own) (tags_inside e h.tags));
        shallow = subst (λ ks. depth_below ks ≤ 31) (sym same) (omega (arith, deep, depth_inside e));
        short = le_self (nodes_size client_ns m.payload);
      };
      tidy = subst AreTidy (sym same) (nodes_of_tree e h.tree);
    }

-- ---- requests

first_plain : (ks : Nodes) (e : Elem) (more : List Elem) → ArePlainNodes ks → elements_of ks ≡ e ∷ more → IsPlainElement e
first_plain no_nodes e more h is = absurd cc
first_plain (child f rest) e more h is = let same : f ≡ e = cc in subst IsPlainElement same h.0
first_plain (text t rest) e more h is = first_plain rest e more h.1 is

first_short : (default : List ℕ) (ks : Nodes) (e : Elem) (more : List Elem) → elements_of ks ≡ e ∷ more → element_size default e ≤ nodes_size default ks
first_short default no_nodes e more is = absurd cc
first_short default (child f rest) e more is = let same : f ≡ e = cc in subst (λ x. element_size default x ≤ nodes_size default (child f rest)) same (let whole = child_size default f rest in omega (arith, whole))
first_short default (text t rest) e more is = let ih = first_short default rest e more is in let whole = texts_size default t rest in omega (arith, ih, whole)

value_said : (name : List ℕ) (ks : Nodes) (e : Elem) (more : List Elem) (o : Option (List ℕ)) → ArePlainNodes ks → nodes_size client_ns ks ≤ 1048576 → elements_of ks ≡ e ∷ more → attr_named name e ≡ o → Said 1048576 (unwrap_or o [])
value_said name ks e more None h short is has = said_word 1048576 [] refl refl
value_said name ks e more (Some v) h short is has =
    let size = value_and_nodes client_ns [] name e v has in
    let within = first_short client_ns ks e more is in
    record { characters = attribute_characters [] name e v (first_plain ks e more h is) has; short = omega (arith, size, within, short) }

iq_fits : (e : Elem) (q : IqView) → IsHandled e → IsIq e q → IqFits q
iq_fits e q h is =
    let inside = subst (λ d. nodes_size d (nodes_of e) ≤ element_size client_ns e) (inside_is e is.named.0) (nodes_within client_ns e) in
    let short = h.short in
    let few : nodes_size client_ns q.payload ≤ 1048576 = subst (λ ks. nodes_size client_ns ks ≤ 1048576) (sym is.payload) (omega (arith, inside, short)) in
    record {
      id = attribute_said (codes "id") e q.id h is.id;
      to = address_fits (codes "to") e (attr_named (codes "to") e) q.to h.plain refl is.to;
      value = λ name f more first. value_said name q.payload f more (attr_named name f) (subst ArePlainNodes (sym is.payload) (plain_inside e h.plain)) few first refl;
    }

presence_fits : (e : Elem) (p : Presence) → IsHandled e → IsPresence e p → PresenceFits p
presence_fits e p h is =
    record { id = subst (Said 1048576) (sym is.id) (or_empty_said (codes "id") e (attr_named (codes "id") e) h refl); to = address_fits (codes "to") e (attr_named (codes "to") e) p.to h.plain refl is.to }

bad_to_fits : (e : Elem) (message reply : Bool) (from : Option (List ℕ)) (id to : List ℕ) → IsHandled e → IsBadTo e message reply from id to → BadToFits id to
bad_to_fits e message reply from id to h is =
    record { the_id = subst (Said 1048576) (sym is.the_id) (or_empty_said (codes "id") e (attr_named (codes "id") e) h refl); the_to = attribute_said (codes "to") e to h is.written }

read_fits : (e : Elem) (read : Result Stanza StanzaFault) → IsHandled e → stanza_of e ≡ read → ReadFits read
read_fits e (Ok (stanza.Message m)) h is = message_fits e m h ((message_law e m).0 is)
read_fits e (Ok (stanza.Presence p)) h is = presence_fits e p h ((presence_law e p).0 is)
read_fits e (Ok (stanza.Iq q)) h is = iq_fits e q h ((iq_law e q).0 is)
read_fits e (Err (fault.BadTo message reply from id to)) h is = bad_to_fits e message reply from id to h ((bad_to_law e message reply from id to).0 is)
read_fits e (Err fault.BadFrom) h is = tt
read_fits e (Err fault.NotAStanza) h is = tt
read_fits e (Err fault.BadFormat) h is = tt
read_fits e (Err fault.NoMemory) h is = tt

-- ---- a binding

named_plain : (ns name : List ℕ) (ks : Nodes) (e : Elem) → ArePlainNodes ks → first_named ns name ks ≡ Some e → IsPlainElement e
named_plain ns name no_nodes e h is = absurd cc
named_plain ns name (child f rest) e h is =
    elim (cases_Bool (is_named ns name f)) [
      | inl here ↦ subst IsPlainElement (same_Some f e (rw here at is)) h.0
      | inr other ↦ named_plain ns name rest e h.1 (rw other at is)
    ]
named_plain ns name (text t rest) e h is = named_plain ns name rest e h.1 is

child_characters : (ns name : List ℕ) (e : Elem) (o : Option Elem) → IsPlainElement e → child_of ns name e ≡ o → IsCharacters (unwrap_or (option_map (λ c. text_of (nodes_of c)) o) [])
child_characters ns name e None h is = printable_characters [] refl
child_characters ns name e (Some c) h is = text_characters (nodes_of c) (plain_inside c (named_plain ns name (nodes_of e) c (plain_inside e h) is))

bind_fits : (e : Elem) (q : IqView) → IsPlain e → IsShort e → IsIq e q → BindFits q
bind_fits e q plain short is =
    let size = value_short q.id in
    let few = short.attribute (codes "id") q.id is.id in
    record {
      id = record { characters = attribute_characters [] (codes "id") e q.id plain.inside is.id; short = omega (arith, size, few) };
      resource = λ bind first. child_characters binding (codes "resource") bind (child_of binding (codes "resource") bind)
          (named_plain binding (codes "bind") q.payload bind (subst ArePlainNodes (sym is.payload) (plain_inside e plain.inside)) first) refl;
    }

binds_fit : (e : Elem) (read : Result Stanza StanzaFault) → IsPlain e → IsShort e → stanza_of e ≡ read → BindsFit read
binds_fit e (Ok (stanza.Message m)) plain short is = tt
binds_fit e (Ok (stanza.Presence p)) plain short is = tt
binds_fit e (Ok (stanza.Iq q)) plain short is = bind_fits e q plain short ((iq_law e q).0 is)
binds_fit e (Err f) plain short is = tt

-- ---- counts

ack_is : (o : Option ℕ) (v : Ack) → ack_with o ≡ Ok v → o ≡ Some v.h
ack_is None v is = absurd cc
ack_is (Some h) v is = cc

pub this_is : {V : Type 0} (b : Bool) (r : Result V ExtFault) (v : V) → where_this b r ≡ Ok v → (b ≡ true) × (r ≡ Ok v)
this_is true r v is = (refl, is)
this_is false r v is = absurd cc

acks : (e : Elem) (v : Ack) → ack_read e ≡ Ok v → v.h < 2 ^ 32
acks e v is =
    elim (cases_Bool (is_management (codes "a") e)) [
      | inl b ↦ required_fits (2 ^ 32) (attr_named (codes "h") e) v.h (ack_is (count_of e) v (rw b at is))
      | inr b ↦ let none : Err _ ≡ Ok v = rw b at is in absurd cc
    ]

resumes_with : (o : Option (List ℕ)) (c : Option ℕ) (v : List ℕ × ℕ) → resumption_with o c ≡ Ok v → c ≡ Some v.1
resumes_with None c v is = absurd cc
resumes_with (Some p) None v is = absurd cc
resumes_with (Some p) (Some h) v is = cc

resumes_by : (e : Elem) (v : List ℕ × ℕ) → resumption_read (codes "resume") e ≡ Ok v → v.1 < 2 ^ 32
resumes_by e v is =
    required_fits (2 ^ 32) (attr_named (codes "h") e) v.1
    (resumes_with (attr_named (codes "previd") e) (count_of e) v (this_is (is_management (codes "resume") e) (resumption_with (attr_named (codes "previd") e) (count_of e)) v is).1)

-- ---- words

either_word : (b : Bool) (w x : Word) → WordComes w → WordComes x → WordComes (cond b w x)
either_word true w x h k = h
either_word false w x h k = k

read_word : {V : Type 0} (f : V → Word) (r : Result V ExtFault) (next : Word) → ((v : V) → r ≡ Ok v → WordComes (f v)) → WordComes next → WordComes (if_read f r next)
read_word f (Ok v) next h k = h v refl
read_word f (Err why) next h k = k

other_comes : (e : Elem) → WordComes (other_word e)
other_comes e = either_word (is_stream_error e) word.StreamError word.Other tt tt

sasl_comes : (e : Elem) → IsPlain e × IsShort e → WordComes (sasl_word e)
unfolding sasl_word
sasl_comes e h =
    either_word (is_sasl (codes "auth") e) _ _ h
    (either_word (is_sasl (codes "response") e) _ _ tt (either_word (is_sasl (codes "abort") e) _ _ tt (either_word (is_bad_sasl e) word.BadField (other_word e) tt (other_comes e))))

resume_comes : (e : Elem) → IsPlain e × IsShort e → WordComes (resume_word e)
unfolding resume_word
resume_comes e h = read_word (λ v. word.Resume v.0 v.1) (resumption_read (codes "resume") e) (sasl_word e) (λ v is. resumes_by e v is) (sasl_comes e h)

management_comes : (e : Elem) → IsPlain e × IsShort e → WordComes (management_word e)
unfolding management_word
management_comes e h =
    read_word (λ v. word.Enable v.resume) (enable_read e) _ (λ v is. tt)
    (either_word (is_management (codes "r") e) word.Request _ tt (read_word (λ v. word.Ack v.h) (ack_read e) (resume_word e) (λ v is. acks e v is) (resume_comes e h)))

pub word_comes : (e : Elem) → Comes (item.Element e) → WordComes (word_of e)
unfolding word_of
word_comes e h =
    either_word (is_stanza e) (word.Stanza (is_long e) (stanza_of e)) (cond (is_bad_management e) word.BadField (management_word e))
    ((λ short. read_fits e (stanza_of e) (handled e h short) refl), binds_fit e (stanza_of e) h.0 h.2 refl)
    (either_word (is_bad_management e) word.BadField (management_word e) tt (management_comes e (h.0, h.2)))
