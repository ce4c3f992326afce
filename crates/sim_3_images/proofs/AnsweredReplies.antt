-- What a server answers to stanzas can be answered.
use Rattle.std.proofs.Common.{◌≡◌, ℕ, Bool, true, false, List, codes, bytes_eq, Option, Some, None, refl}
use Rattle.law_limits.specs.Answerable.{IsAnswerable}
use Rattle.sim_3_images.proofs.AnsweredItems.{iq_answers_by, no_challenge, no_enabled, no_message, other_answers, plain_message}
use Rattle.sim_3_images.proofs.RelayableItems.{other_first}
use Rattle.im_forwarding.specs.Copies.{CopyView, copied_elem, copy_elem}
use Rattle.im_payload.specs.Names.{archive}
use Rattle.im_replies.specs.Requests.{EnvelopeView}
use Rattle.im_stanza.specs.Answering.{bounce_elem, iq_error_elem, presence_bounce_elem}
use Rattle.im_stanza.specs.Errors.{error_elem}
use Rattle.im_stanza.specs.Names.{client_ns}
use Rattle.im_stanza.specs.Stanzas.{attr_named}
use Rattle.im_stanza.specs.Written.{attrs_written, iq_elem}
use Rattle.im_stanza.specs.declared.errors.StanzaError.{StanzaError}
use Rattle.im_stanza.specs.declared.kinds.IqKind.TheVariants as iq
use Rattle.xml_trees.specs.Readers.{first_named}
use Rattle.xml_trees.specs.Trees.{Elem, Nodes, child, element, no_nodes}

-- ---- requests

type_is : (from to : Option (List ℕ)) (id kind : List ℕ) (payload : Nodes) → attr_named (codes "type") (element client_ns (codes "iq") (attrs_written from (Some id) to (Some kind) None) payload) ≡ Some kind
type_is None None id kind payload = refl
type_is None (Some t) id kind payload = refl
type_is (Some f) None id kind payload = refl
type_is (Some f) (Some t) id kind payload = refl

iq_answers : (from to : Option (List ℕ)) (id kind : List ℕ) (payload : Nodes) → bytes_eq kind (codes "get") ≡ false → bytes_eq kind (codes "set") ≡ false → IsAnswerable (element client_ns (codes "iq") (attrs_written from (Some id) to (Some kind) None) payload)
iq_answers from to id kind payload get set =
    let e : Elem = element client_ns (codes "iq") (attrs_written from (Some id) to (Some kind) None) payload in
    record {
      request = λ q is asks. absurd (iq_answers_by e kind refl (type_is from to id kind payload) get set q is asks);
      result = λ m given r is found reads. absurd (no_message e refl m is);
      session = λ v is. absurd (no_enabled e refl v is);
      challenge = λ p is. absurd (no_challenge e refl p is);
    }

pub result_answers : (a : EnvelopeView) (payload : Nodes) → IsAnswerable (iq_elem (record { from = a.from; to = a.to; id = a.id; kind = iq.Result; payload = payload }))
result_answers a payload = iq_answers a.from a.to a.id (codes "result") payload refl refl

pub refusal_answers : (from to : Option (List ℕ)) (id : List ℕ) (e : StanzaError) → IsAnswerable (iq_error_elem from to id e)
refusal_answers from to id e = iq_answers from to id (codes "error") (child (error_elem e) no_nodes) refl refl

-- ---- messages

pub bounce_answers : (from id : List ℕ) (e : StanzaError) → IsAnswerable (bounce_elem from id e)
bounce_answers from id e = plain_message (bounce_elem from id e) refl refl refl (other_first (error_elem e) no_nodes refl refl)

-- ---- presences

pub presence_bounce_answers : (from id : List ℕ) (e : StanzaError) → IsAnswerable (presence_bounce_elem from id e)
presence_bounce_answers from id e = other_answers (presence_bounce_elem from id e) refl refl refl refl

-- ---- copies

pub copy_answers : (c : CopyView) (full : List ℕ) → IsAnswerable (copy_elem c full)
copy_answers c full = plain_message (copy_elem c full) refl refl refl (by c.sent refl)
  where
    by : (b : Bool) → c.sent ≡ b → first_named archive (codes "result") (child (copied_elem c) no_nodes) ≡ None
    by true is = other_first (copied_elem c) no_nodes (rw is refl) refl
    by false is = other_first (copied_elem c) no_nodes (rw is refl) refl
