-- What a server says can be answered.
use Rattle.std.proofs.Common.{◌≡◌, ℕ, Bool, true, false, List, [], ◌∷◌, ◌++◌, codes, bytes_eq, Option, Some, None, Result, Ok, refl, sym, ap, ◌∙◌, inl, inr}
use Rattle.std.proofs.lemmas.Bool.{cases_Bool}
use Rattle.std.proofs.lemmas.Slice.Eq.{bytes_eq-Decides}
use Rattle.std.proofs.lemmas.Option.{none-some, same_Some}
use Rattle.mam_archive.specs.Ids.{id_of}
use Rattle.law_limits.specs.Answerable.{IsAnswerable}
use Rattle.sim_3_images.proofs.RelayableItems.{not_named, other_first, unlike}
use Rattle.im_extensions.specs.Ids.{stanza_id_elem}
use Rattle.im_extensions.specs.Readings.{enabled_read}
use Rattle.im_extensions.specs.StreamManagement.{is_management}
use Rattle.im_extensions.specs.declared.stream_management.Enabled.{Enabled}
use Rattle.im_forwarding.specs.Passed.{id_node, passed_elem}
use Rattle.im_mam.specs.Readings.{result_read}
use Rattle.im_mam.specs.declared.archive_answers.MamResult.{MamResult}
use Rattle.im_extensions.specs.Given.{is_given_by}
use Rattle.im_messages.specs.Ids.{without_ids}
use Rattle.im_payload.specs.Names.{archive, management, sasl}
use Rattle.im_payload.specs.Readings.{where_this}
use Rattle.im_payload.specs.declared.fault.ExtFault.{ExtFault}
use Rattle.law_limits.specs.Bounds.{IsTextWithin, most_id}
use Rattle.im_login.specs.Readings.{carrier_read}
use Rattle.im_login.specs.Sasl.{is_sasl}
use Rattle.im_stanza.proofs.ReadingLaws.{iq_law, message_law}
use Rattle.im_stanza.specs.Kinds.{answers_iq, iq_type}
use Rattle.im_stanza.specs.Readings.{stanza_of}
use Rattle.im_stanza.specs.Stanzas.{attr_named}
use Rattle.im_stanza.specs.Views.{IqView, MessageView}
use Rattle.im_stanza.specs.declared.kinds.IqKind.{IqKind}
use Rattle.im_stanza.specs.declared.kinds.IqKind.TheVariants as iq
use Rattle.im_stanza.specs.declared.stanzas.Stanza.TheVariants.{Iq, Message}
use Rattle.xml_trees.specs.Readers.{first_named, is_named}
use Rattle.xml_trees.specs.Tidied.{text_node, texts_joined}
use Rattle.xml_trees.specs.Trees.{Elem, Nodes, child, joined, name_of, no_nodes, nodes_of, text}

-- ---- names

other_name : (e : Elem) (name : List ℕ) → bytes_eq (name_of e) name ≡ false → name_of e ≡ name → ⊥
other_name e name other same = unlike (bytes_eq (name_of e) name) other ((bytes_eq-Decides (name_of e) name).1 same)

pub not_this : {V : Type 0} (b : Bool) (r : Result V ExtFault) (v : V) → b ≡ false → where_this b r ≡ Ok v → ⊥
not_this true r v other is = absurd (cc other)
not_this false r v other is = cc is

-- no answer is asked for, and it is no message
pub record IsNoStanza (e : Elem) : Type 0 where
  pub message : bytes_eq (name_of e) (codes "message") ≡ false
  pub iq : bytes_eq (name_of e) (codes "iq") ≡ false

pub no_request : (e : Elem) → bytes_eq (name_of e) (codes "iq") ≡ false → (q : IqView) → stanza_of e ≡ Ok (Iq q) → ⊥
no_request e other q is = other_name e (codes "iq") other ((iq_law e q).0 is).named.1

pub no_message : (e : Elem) → bytes_eq (name_of e) (codes "message") ≡ false → (m : MessageView) → stanza_of e ≡ Ok (Message m) → ⊥
no_message e other m is = other_name e (codes "message") other ((message_law e m).0 is).named.1

pub no_enabled : (e : Elem) → bytes_eq (name_of e) (codes "enabled") ≡ false → (v : Enabled) → enabled_read e ≡ Ok v → ⊥
no_enabled e other v is = not_this (is_management (codes "enabled") e) _ v (not_named management (codes "enabled") e other) is

pub no_challenge : (e : Elem) → bytes_eq (name_of e) (codes "challenge") ≡ false → (payload : List ℕ) → carrier_read (codes "challenge") e ≡ Ok payload → ⊥
no_challenge e other payload is = not_this (is_sasl (codes "challenge") e) _ payload (not_named sasl (codes "challenge") e other) is

-- an element of another name
pub other_answers : (e : Elem) → bytes_eq (name_of e) (codes "iq") ≡ false → bytes_eq (name_of e) (codes "message") ≡ false → bytes_eq (name_of e) (codes "enabled") ≡ false → bytes_eq (name_of e) (codes "challenge") ≡ false → IsAnswerable e
other_answers e a b c d = record {
  request = λ q is asks. absurd (no_request e a q is);
  result = λ m given r is found reads. absurd (no_message e b m is);
  session = λ v is. absurd (no_enabled e c v is);
  challenge = λ payload is. absurd (no_challenge e d payload is);
}

-- ---- messages

pub message_answers : (e : Elem) → bytes_eq (name_of e) (codes "iq") ≡ false → bytes_eq (name_of e) (codes "enabled") ≡ false → bytes_eq (name_of e) (codes "challenge") ≡ false
    → ((given : Elem) (r : MamResult) → first_named archive (codes "result") (nodes_of e) ≡ Some given → result_read given ≡ Ok r → IsTextWithin most_id r.id) → IsAnswerable e
message_answers e a c d short = record {
  request = λ q is asks. absurd (no_request e a q is);
  result = λ m given r is found reads. short given r (ap (first_named archive (codes "result")) (sym ((message_law e m).0 is).payload) ∙ found) reads;
  session = λ v is. absurd (no_enabled e c v is);
  challenge = λ payload is. absurd (no_challenge e d payload is);
}

-- one without a result
pub plain_message : (e : Elem) → bytes_eq (name_of e) (codes "iq") ≡ false → bytes_eq (name_of e) (codes "enabled") ≡ false → bytes_eq (name_of e) (codes "challenge") ≡ false
    → first_named archive (codes "result") (nodes_of e) ≡ None → IsAnswerable e
plain_message e a c d none = message_answers e a c d (λ given r found reads. absurd (none-some given (sym none ∙ found)))

-- ---- a message as it is passed on has no result where it came without one

joined_none : (ks more : Nodes) → first_named archive (codes "result") ks ≡ None → first_named archive (codes "result") more ≡ None → first_named archive (codes "result") (joined ks more) ≡ None
joined_none no_nodes more h k = k
joined_none (text t rest) more h k = joined_none rest more h k
joined_none (child e rest) more h k = elim (cases_Bool (is_named archive (codes "result") e)) [
  | inl b ↦ absurd (none-some e (sym h ∙ rw b refl))
  | inr b ↦ rw b (joined_none rest more (rw b at h) k)
]

text_none : (t : List ℕ) → first_named archive (codes "result") (text_node t) ≡ None
text_none [] = refl
text_none (b ∷ t) = refl

kept_none : (by : List ℕ) (ks : Nodes) → first_named archive (codes "result") ks ≡ None → first_named archive (codes "result") (without_ids by ks) ≡ None
kept_none by no_nodes h = refl
kept_none by (text t rest) h = kept_none by rest h
kept_none by (child e rest) h = elim (cases_Bool (is_named archive (codes "result") e)) [
  | inl b ↦ absurd (none-some e (sym h ∙ rw b refl))
  | inr b ↦
      let more = kept_none by rest (rw b at h) in
      elim (cases_Bool (is_given_by by e)) [ inl g ↦ rw g more | inr g ↦ rw (g, b) more ]
]

runs_none : (run : List ℕ) (ks : Nodes) → first_named archive (codes "result") ks ≡ None → first_named archive (codes "result") (texts_joined run ks) ≡ None
runs_none run no_nodes h = text_none run
runs_none run (text t rest) h = runs_none (run ++ t) rest h
runs_none run (child e rest) h = joined_none (text_node run) (child e (texts_joined [] rest)) (text_none run) (elim (cases_Bool (is_named archive (codes "result") e)) [
  | inl b ↦ absurd (none-some e (sym h ∙ rw b refl))
  | inr b ↦ rw b (runs_none [] rest (rw b at h))
])

id_none : (by : List ℕ) (number : Option ℕ) → first_named archive (codes "result") (id_node by number) ≡ None
id_none by None = refl
id_none by (Some n) = other_first (stanza_id_elem (record { id = id_of n; by = by })) no_nodes refl refl

pub passed_answers : (by : List ℕ) (number : Option ℕ) (m : MessageView) → first_named archive (codes "result") m.payload ≡ None → IsAnswerable (passed_elem by number m)
passed_answers by number m none = plain_message _ refl refl refl (joined_none (texts_joined [] (without_ids by m.payload)) (id_node by number) (runs_none [] (without_ids by m.payload) (kept_none by m.payload none)) (id_none by number))

carbon_other : (sent : Bool) (e : Elem) → bytes_eq (name_of e) (codes "result") ≡ false → first_named archive (codes "result") (child e no_nodes) ≡ None
carbon_other sent e other = other_first e no_nodes other refl

-- ---- requests

pub iq_answers_by : (e : Elem) (kind : List ℕ) → name_of e ≡ codes "iq" → attr_named (codes "type") e ≡ Some kind → bytes_eq kind (codes "get") ≡ false → bytes_eq kind (codes "set") ≡ false → (q : IqView) → stanza_of e ≡ Ok (Iq q) → answers_iq q.kind ≡ true → ⊥
iq_answers_by e kind named told get set q is asks = by q.kind (same_Some kind (iq_type q.kind) (sym told ∙ ((iq_law e q).0 is).kind)) asks
  where
    by : (k : IqKind) → kind ≡ iq_type k → answers_iq k ≡ true → ⊥
    by iq.Get same asks = unlike (bytes_eq kind (codes "get")) get ((bytes_eq-Decides kind (codes "get")).1 same)
    by iq.Set same asks = unlike (bytes_eq kind (codes "set")) set ((bytes_eq-Decides kind (codes "set")).1 same)
    by iq.Result same asks = cc asks
    by iq.Error same asks = cc asks
