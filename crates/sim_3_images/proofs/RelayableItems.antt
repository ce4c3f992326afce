-- What a client says is mild.
use Rattle.std.proofs.Common.{◌≡◌, ℕ, ◌+◌, ◌*◌, ◌≤◌, ◌&&◌, bytes_eq, Bool, true, false, List, [], ◌∷◌, ◌++◌, None, length, codes, refl, sym, ◌∙◌, arith, length-append}
use Rattle.sim_3_images.specs.Relayable.{IsRelayable, IsRelayableElement}
use Rattle.im_extensions.specs.Ids.{origin_id_elem}
use Rattle.im_payload.specs.Bare.{bare}
use Rattle.im_payload.specs.Names.{archive, carbons, sasl}
use Rattle.im_requests.specs.Messages.{body_elem, chat_elem, private_nodes, submission_item, submission_nodes}
use Rattle.im_login.specs.Payloads.{base64_of}
use Rattle.im_login.specs.Sasl.{auth_of, is_sasl}
use Rattle.law_limits.proofs.Logins.{base64_short}
use Rattle.law_limits.proofs.Messages.{escaped_short}
use Rattle.auth_scram.specs.Exchange.{client_first_message}
use Rattle.auth_scram.specs.Grammar.{escaped}
use Rattle.im_stanza.specs.Names.{client_ns}
use Rattle.xml_trees.specs.Readers.{first_named, is_named, text_of}
use Rattle.xml_trees.specs.Tidied.{text_node}
use Rattle.xml_trees.specs.Trees.{Elem, Nodes, child, name_of, namespace_of, no_nodes}
use Rattle.xml_writer.specs.Items.{Whole}

pub not_named : (ns name : List ℕ) (e : Elem) → bytes_eq (name_of e) name ≡ false → is_named ns name e ≡ false
not_named ns name e other = by (bytes_eq (namespace_of e) ns)
  where
    by : (b : Bool) → (b && bytes_eq (name_of e) name) ≡ false
    by true = other
    by false = refl

pub unlike : (b : Bool) → b ≡ false → b ≡ true → ⊥
unlike b here there = cc (sym here ∙ there)

-- one that is neither a message nor an `auth`
pub relayable : (e : Elem) → bytes_eq (name_of e) (codes "message") ≡ false → bytes_eq (name_of e) (codes "auth") ≡ false → IsRelayableElement e
relayable e a b = record {
  message = λ is. absurd (unlike (is_named client_ns (codes "message") e) (not_named client_ns (codes "message") e a) is);
  auth = λ is. absurd (unlike (is_sasl (codes "auth") e) (not_named sasl (codes "auth") e b) is);
}

pub other_first : (e : Elem) (rest : Nodes) → bytes_eq (name_of e) (codes "result") ≡ false → first_named archive (codes "result") rest ≡ None → first_named archive (codes "result") (child e rest) ≡ None
other_first e rest other none = rw (not_named archive (codes "result") e other) none

none_private : (private : Bool) → first_named archive (codes "result") (private_nodes private) ≡ None
none_private true = other_first (bare carbons (codes "private")) no_nodes refl refl
none_private false = refl

pub submission_relayable : (id to text : List ℕ) (private : Bool) → IsRelayable (submission_item id to text private)
submission_relayable id to text private = record {
  message = λ is. other_first (body_elem text) (child (origin_id_elem (record { id = id })) (private_nodes private)) refl (other_first (origin_id_elem (record { id = id })) (private_nodes private) refl (none_private private));
  auth = λ is. absurd (unlike (is_sasl (codes "auth") e) (not_named sasl (codes "auth") e refl) is);
}
  where
    e : Elem
    e = chat_elem id to (submission_nodes id text private)

-- ---- the first message of a login

first_short : (name nonce : List ℕ) → length name ≤ 32 → length nonce ≤ 38 → length (client_first_message name nonce) ≤ 144
first_short name nonce short few =
    let e = escaped name in
    let front = codes "n=" ++ e in
    let middle = front ++ codes ",r=" in
    omega (arith, length-append (codes "n,,") (middle ++ nonce), length-append middle nonce, length-append front (codes ",r="), length-append (codes "n=") e, escaped_short name, short, few)

node_length : (t : List ℕ) → length (text_of (text_node t)) ≤ length t
node_length [] = omega arith
node_length (b ∷ t) = let same = length-append (b ∷ t) [] in omega (arith, same)

payload_length : (m : List ℕ) → length (base64_of m) ≤ 2 * length m + 4
unfolding base64_of
payload_length m = base64_short m

pub auth_relayable : (name nonce : List ℕ) → length name ≤ 32 → length nonce ≤ 38 → IsRelayable (Whole (auth_of (codes "SCRAM-SHA-256") (client_first_message name nonce)))
auth_relayable name nonce short few = record {
  message = λ is. absurd (unlike (is_named client_ns (codes "message") (auth_of (codes "SCRAM-SHA-256") (client_first_message name nonce))) (not_named client_ns (codes "message") (auth_of (codes "SCRAM-SHA-256") (client_first_message name nonce)) refl) is);
  auth = λ is.
      let m = client_first_message name nonce in
      let first = first_short name nonce short few in
      let node = node_length (base64_of m) in
      let long = payload_length m in
      omega (arith, first, node, long);
}
