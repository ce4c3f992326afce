-- Which of the three stanzas an element is, and what follows for its reading.
use Rattle.std.proofs.Common.{◌≡◌, ◌≢◌, ◌↔◌, ℕ, Bool, true, false, List, Option, Some, None, Err, refl, sym, ◌∙◌, ap, ◌⊎◌, inl, inr, codes, Decides}
use Rattle.std.specs.Str.{bytes_eq}
use Rattle.std.proofs.lemmas.Bool.{cases_Bool}
use Rattle.std.proofs.lemmas.Bool.Decides.{Decides-and}
use Rattle.std.proofs.lemmas.Slice.Eq.{bytes_eq-Decides}
use Rattle.xml_trees.specs.Readers.{is_named}
use Rattle.xml_trees.specs.Trees.{Elem, namespace_of, name_of}
use Rattle.im_stanza.proofs.KindLemmas.{equal_bytes, message_reads, iq_kind_is, iq_kind_read}
use Rattle.im_stanza.specs.Kinds.{message_type, message_kind, answers_message, iq_type, iq_kind, answers_iq}
use Rattle.im_stanza.specs.Names.{client_ns}
use Rattle.im_stanza.specs.Readings.{Addresses, addresses_of, with_addresses, message_of, presence_of, iq_of, iq_with, stanza_of}
use Rattle.im_stanza.specs.Stanzas.{IsNamed, attr_named, IsNoStanza, IsBadFormat, IsAnswered}
use Rattle.im_stanza.specs.declared.kinds.MessageKind.{MessageKind}
use Rattle.im_stanza.specs.declared.kinds.MessageKind.TheVariants.{Chat, Normal, Headline, Groupchat, Error}
use Rattle.im_stanza.specs.declared.kinds.IqKind.{IqKind}
use Rattle.im_stanza.specs.declared.kinds.IqKind.TheVariants as iq
use Rattle.im_stanza.specs.declared.stanzas.Stanza.{Stanza}
use Rattle.im_stanza.specs.declared.fault.StanzaFault.TheVariants.{NotAStanza, BadFormat}

named-Decides : (name : List ℕ) (e : Elem) → Decides (is_named client_ns name e) (IsNamed name e)
named-Decides name e = Decides-and _ _ (bytes_eq-Decides (namespace_of e) client_ns) (bytes_eq-Decides (name_of e) name)

named : (name : List ℕ) (e : Elem) → (IsNamed name e × (is_named client_ns name e ≡ true)) ⊎ (¬ (IsNamed name e) × (is_named client_ns name e ≡ false))
named name e =
    elim (cases_Bool (is_named client_ns name e)) [
      | inl t ↦ inl ((named-Decides name e).0 t, t)
      | inr f ↦ inr ((λ p. let t = (named-Decides name e).1 p in cc), f)
    ]

-- no element has two names
pub not_both : (a b : List ℕ) → bytes_eq a b ≡ false → (e : Elem) → IsNamed a e → IsNamed b e → ⊥
not_both a b differ e p q = let t = equal_bytes a b (sym p.1 ∙ q.1) in cc

not_named : (name : List ℕ) (e : Elem) → ¬ (IsNamed name e) → is_named client_ns name e ≡ false
not_named name e h = elim (named name e) [ inl t ↦ absurd (h t.0) | inr f ↦ f.1 ]

is_named_so : (name : List ℕ) (e : Elem) → IsNamed name e → is_named client_ns name e ≡ true
is_named_so name e h = (named-Decides name e).1 h

pub at_message : (e : Elem) → IsNamed (codes "message") e → stanza_of e ≡ message_of e
at_message e h = let t = is_named_so (codes "message") e h in rw t refl

pub at_presence : (e : Elem) → IsNamed (codes "presence") e → stanza_of e ≡ presence_of e
at_presence e h =
    let f = not_named (codes "message") e (λ p. not_both (codes "message") (codes "presence") refl e p h) in
    let t = is_named_so (codes "presence") e h in
    rw (f, t) refl

pub at_iq : (e : Elem) → IsNamed (codes "iq") e → stanza_of e ≡ iq_of e
at_iq e h =
    let f = not_named (codes "message") e (λ p. not_both (codes "message") (codes "iq") refl e p h) in
    let g = not_named (codes "presence") e (λ p. not_both (codes "presence") (codes "iq") refl e p h) in
    let t = is_named_so (codes "iq") e h in
    rw (f, g, t) refl

pub at_none : (e : Elem) → IsNoStanza e → stanza_of e ≡ Err NotAStanza
at_none e h =
    let f = not_named (codes "message") e h.message in
    let g = not_named (codes "presence") e h.presence in
    let k = not_named (codes "iq") e h.iq in
    rw (f, g, k) refl

pub which : (e : Elem) → IsNamed (codes "message") e ⊎ (IsNamed (codes "presence") e ⊎ (IsNamed (codes "iq") e ⊎ IsNoStanza e))
which e =
    elim (named (codes "message") e) [
      | inl m ↦ inl m.0
      | inr m ↦ elim (named (codes "presence") e) [
        | inl p ↦ inr (inl p.0)
        | inr p ↦ elim (named (codes "iq") e) [
          | inl q ↦ inr (inr (inl q.0))
          | inr q ↦ inr (inr (inr (record { message = m.0; presence = p.0; iq = q.0 })))
        ]
      ]
    ]

-- A stanza but for its addresses: how it is read, and what a bad `to` tells.
pub record Formed (e : Elem) : Type 0 where
  pub stanza : Addresses → Stanza
  pub is_message : Bool
  pub reply : Bool
  pub is : stanza_of e ≡ with_addresses stanza (addresses_of is_message reply e)
  pub message : (is_message ≡ true) ↔ IsNamed (codes "message") e
  pub answered : (reply ≡ true) ↔ IsAnswered e
  pub some : ¬ (IsNoStanza e)
  pub format : ¬ (IsBadFormat e)

not_error : (kind : MessageKind) → kind ≢ Error → answers_message kind ≡ true
not_error Chat h = refl
not_error Normal h = refl
not_error Headline h = refl
not_error Groupchat h = refl
not_error Error h = absurd (h refl)

-- a message is read as an error exactly where that is its type
error_type_given : (given : Option (List ℕ)) → message_kind given ≡ Error → given ≡ Some (message_type Error)
error_type_given None h = absurd cc
error_type_given (Some name) h =
    elim (message_reads.sound name) [
      | inl e ↦ ap Some (e ∙ ap message_type h)
      | inr e ↦ absurd (let p : Error ≡ Normal = sym h ∙ e in cc)
    ]

message_answered : (e : Elem) → IsNamed (codes "message") e → (answers_message (message_kind (attr_named (codes "type") e)) ≡ true) ↔ IsAnswered e
message_answered e h =
    let given = attr_named (codes "type") e in (
      λ t. inl (h, λ p. let f : answers_message (message_kind given) ≡ false = ap (λ v. answers_message (message_kind v)) p in let x = sym t ∙ f in cc),
      λ is. elim is [
        | inl m ↦ not_error (message_kind given) (λ k. m.1 (error_type_given given k))
        | inr q ↦ absurd (not_both (codes "message") (codes "iq") refl e h q.0)
      ],
    )

formed_message : (e : Elem) → IsNamed (codes "message") e → Formed e
formed_message e h = record {
  stanza = _;
  is_message = true;
  reply = answers_message (message_kind (attr_named (codes "type") e));
  is = at_message e h;
  message = (λ _. h, λ _. refl);
  answered = message_answered e h;
  some = λ none. none.message h;
  format = λ bad. not_both (codes "message") (codes "iq") refl e h bad.named;
}

formed_presence : (e : Elem) → IsNamed (codes "presence") e → Formed e
formed_presence e h = record {
  stanza = _;
  is_message = false;
  reply = false;
  is = at_presence e h;
  message = (λ t. absurd cc, λ m. absurd (not_both (codes "message") (codes "presence") refl e m h));
  answered = (
    λ t. absurd cc,
    λ is. elim is [
      | inl m ↦ absurd (not_both (codes "message") (codes "presence") refl e m.0 h)
      | inr q ↦ absurd (not_both (codes "presence") (codes "iq") refl e h q.0)
    ],
  );
  some = λ none. none.presence h;
  format = λ bad. not_both (codes "presence") (codes "iq") refl e h bad.named;
}

-- an `iq` of the right format
pub at_formed_iq : (e : Elem) (id : List ℕ) (kind : IqKind) → IsNamed (codes "iq") e → attr_named (codes "id") e ≡ Some id → iq_kind (attr_named (codes "type") e) ≡ Some kind
    → stanza_of e ≡ iq_with (Some id) (Some kind) e
at_formed_iq e id kind h has_id has_kind = at_iq e h ∙ (λ i. iq_with (has_id i) (has_kind i) e)

iq_due : (kind : IqKind) → answers_iq kind ≡ true → (kind ≡ iq.Get) ⊎ (kind ≡ iq.Set)
iq_due iq.Get t = inl refl
iq_due iq.Set t = inr refl
iq_due iq.Result t = absurd cc
iq_due iq.Error t = absurd cc

iq_answered : (e : Elem) (kind : IqKind) → IsNamed (codes "iq") e → iq_kind (attr_named (codes "type") e) ≡ Some kind → (answers_iq kind ≡ true) ↔ IsAnswered e
iq_answered e kind h has_kind =
    let given = attr_named (codes "type") e in
    let is_given : given ≡ Some (iq_type kind) = iq_kind_is given kind has_kind in (
      λ t. inr (h, elim (iq_due kind t) [ inl k ↦ inl (is_given ∙ ap (λ x. Some (iq_type x)) k) | inr k ↦ inr (is_given ∙ ap (λ x. Some (iq_type x)) k) ]),
      λ is. elim is [
        | inl m ↦ absurd (not_both (codes "message") (codes "iq") refl e m.0 h)
        | inr q ↦ elim q.1 [
          | inl g ↦ let k : Some kind ≡ Some iq.Get = sym has_kind ∙ iq_kind_read given iq.Get g in let same : kind ≡ iq.Get = cc in ap answers_iq same
          | inr g ↦ let k : Some kind ≡ Some iq.Set = sym has_kind ∙ iq_kind_read given iq.Set g in let same : kind ≡ iq.Set = cc in ap answers_iq same
        ]
      ],
    )

formed_iq : (e : Elem) (id : List ℕ) (kind : IqKind) → IsNamed (codes "iq") e → attr_named (codes "id") e ≡ Some id → iq_kind (attr_named (codes "type") e) ≡ Some kind → Formed e
formed_iq e id kind h has_id has_kind = record {
  stanza = _;
  is_message = false;
  reply = answers_iq kind;
  is = at_formed_iq e id kind h has_id has_kind;
  message = (λ t. absurd cc, λ m. absurd (not_both (codes "message") (codes "iq") refl e m h));
  answered = iq_answered e kind h has_kind;
  some = λ none. none.iq h;
  format = λ bad. elim bad.lacks [
    | inl lacks ↦ let x = sym has_id ∙ lacks in cc
    | inr other ↦ other kind (iq_kind_is (attr_named (codes "type") e) kind has_kind)
  ];
}

option_cases : {A : Type 0} (o : Option A) → (o ≡ None) ⊎ ((x : A) × (o ≡ Some x))
option_cases None = inl refl
option_cases (Some x) = inr (x, refl)

-- An `iq` has an id and one of the four types, or is of a bad format.
pub iq_cases : (e : Elem) → IsNamed (codes "iq") e
    → (IsBadFormat e × (stanza_of e ≡ Err BadFormat)) ⊎ ((id : List ℕ) × (kind : IqKind) × (attr_named (codes "id") e ≡ Some id) × (iq_kind (attr_named (codes "type") e) ≡ Some kind))
iq_cases e h =
    elim (option_cases (attr_named (codes "id") e)) [
      | inl lacks ↦ inl (record { named = h; lacks = inl lacks }, at_iq e h ∙ ap (λ id. iq_with id (iq_kind (attr_named (codes "type") e)) e) lacks)
      | inr id ↦ elim (option_cases (iq_kind (attr_named (codes "type") e))) [
        | inl other ↦ inl (
          record { named = h; lacks = inr (λ k p. let x = sym (iq_kind_read (attr_named (codes "type") e) k p) ∙ other in cc) },
          at_iq e h ∙ (λ i. iq_with (id.1 i) (other i) e),
        )
        | inr kind ↦ inr (id.0, kind.0, id.1, kind.1)
      ]
    ]

judged_iq : (e : Elem) → IsNamed (codes "iq") e → (IsBadFormat e × (stanza_of e ≡ Err BadFormat)) ⊎ Formed e
judged_iq e h = elim (iq_cases e h) [ inl bad ↦ inl bad | inr q ↦ inr (formed_iq e q.0 q.1 h q.2 q.3) ]

pub judged : (e : Elem) → IsNoStanza e ⊎ ((IsBadFormat e × (stanza_of e ≡ Err BadFormat)) ⊎ Formed e)
judged e =
    elim (which e) [
      | inl m ↦ inr (inr (formed_message e m))
      | inr other ↦ elim other [
        | inl p ↦ inr (inr (formed_presence e p))
        | inr rest ↦ elim rest [
          | inl q ↦ inr (judged_iq e q)
          | inr none ↦ inl none
        ]
      ]
    ]
