-- What is read of a payload's text, byte by byte and node by node, is what `payload_read` says of the whole text.
use Rattle.std.proofs.Common.{◌≡◌, ℕ, ◌+◌, ◌==◌, ◌<◌, false, not, List, [], ◌∷◌, ◌++◌, length, drop, get_or, Option, Some, None, Result, Ok, Err, is_ok, codes, bytes_eq, refl, sym, ap, ◌∙◌, subst, inl, inr, eq-eqb}
use Rattle.std.proofs.lemmas.Bool.{cases_Bool, eqb-true, false≢true, false_from_ne_true}
use Rattle.std.proofs.lemmas.List.{drop_more}
use Rattle.std.proofs.lemmas.Slice.Eq.{bytes_eq-Decides}
use Rattle.std.specs.Option.{option_and_then}
use Rattle.base64.specs.Engines.{standard}
use Rattle.base64.specs.GeneralPurpose.{IsBytes, decode_of}
use Rattle.base64.specs.declared.decode.DecodeError.{DecodeError}
use Rattle.im_bad_fields.specs.BadFields.{is_bad}
use Rattle.im_bad_fields.specs.PayloadTexts.{as_base64, payload_after, payload_goes_on, payload_may_end}
use Rattle.im_bad_fields.specs.declared.payload.PayloadText.{PayloadText}
use Rattle.im_bad_fields.specs.declared.payload.PayloadText.TheVariants.{Empty, Equals, Neither}
use Rattle.auth_primitives.proofs.ByteSteps.{IsBytes-append}
use Rattle.auth_primitives.proofs.AcceptedLaws.{accepted_is_decoded}
use Rattle.auth_primitives.specs.Canonical.{is_base64}
use Rattle.auth_primitives.specs.Reading.{base64_after, base64_goes_on, is_accepted, is_at_end}
use Rattle.auth_primitives.specs.declared.text.Base64Text.{Base64Text}
use Rattle.auth_primitives.specs.declared.text.Base64Text.TheVariants.{Whole}
use Rattle.im_payload.specs.declared.fault.ExtFault.{ExtFault}
use Rattle.im_payload.specs.declared.fault.ExtFault.TheVariants.{NotThis, Bad, NoMemory}
use Rattle.im_login.specs.Readings.{auth_with, decoded, payload_read}
use Rattle.xml_trees.proofs.TidyReads.{text_of-joined}
use Rattle.xml_trees.specs.Readers.{text_of}
use Rattle.xml_trees.specs.Views.{node_view, nodes_view}
use Rattle.xml_trees.specs.declared.elements.Node.{Node}

-- ---- a text

pub after_append : (p : PayloadText) (front rest : List ℕ) → payload_after p (front ++ rest) ≡ payload_after (payload_after p front) rest
after_append p [] rest = refl
after_append p (b ∷ front) rest = after_append (payload_goes_on p b) front rest

neither_stays : (bytes : List ℕ) → payload_after Neither bytes ≡ Neither
neither_stays [] = refl
neither_stays (b ∷ bytes) = neither_stays bytes

base64_so : (o : Option Base64Text) (bytes : List ℕ) → payload_after (as_base64 o) bytes ≡ as_base64 (option_and_then (λ s. base64_after s bytes) o)
base64_so None bytes = neither_stays bytes
base64_so (Some s) [] = refl
base64_so (Some s) (b ∷ bytes) = base64_so (base64_goes_on s b) bytes

may_end_so : (o : Option Base64Text) → payload_may_end (as_base64 o) ≡ is_at_end o
may_end_so None = refl
may_end_so (Some s) = refl

decoded_bad : (r : Result (List ℕ) DecodeError) → is_bad (decoded r) ≡ not (is_ok r)
decoded_bad (Ok bytes) = refl
decoded_bad (Err why) = refl

base64_bad : (text : List ℕ) → IsBytes text → is_bad (decoded (decode_of standard text)) ≡ not (is_accepted text)
unfolding is_base64
base64_bad text fits = decoded_bad (decode_of standard text) ∙ ap not (sym (accepted_is_decoded text fits))

begins_with_equals : (bytes : List ℕ) → IsBytes (61 ∷ bytes) → is_bad (payload_read (61 ∷ bytes)) ≡ not (payload_may_end (payload_after Equals bytes))
unfolding payload_read
begins_with_equals [] fits = refl
begins_with_equals (c ∷ cs) fits =
    base64_bad (61 ∷ c ∷ cs) fits ∙ sym (ap (λ p. not (payload_may_end p)) (neither_stays cs))

unlike_equals : (b : ℕ) (bytes : List ℕ) → (b == 61) ≡ false → bytes_eq (b ∷ bytes) (codes "=") ≡ false
unlike_equals b bytes other =
    false_from_ne_true (bytes_eq (b ∷ bytes) (codes "=")) (λ told.
    let same : b ∷ bytes ≡ codes "=" = (bytes_eq-Decides (b ∷ bytes) (codes "=")).0 told in
    let first : b ≡ 61 = cc same in
    false≢true (sym other ∙ eq-eqb b 61 first))

begins_otherwise : (b : ℕ) (bytes : List ℕ) → (b == 61) ≡ false → IsBytes (b ∷ bytes) → is_bad (payload_read (b ∷ bytes)) ≡ not (payload_may_end (payload_after Empty (b ∷ bytes)))
unfolding payload_read
begins_otherwise b bytes other fits =
    let read : payload_read (b ∷ bytes) ≡ decoded (decode_of standard (b ∷ bytes)) = rw (unlike_equals b bytes other) refl in
    let following : payload_after Empty (b ∷ bytes) ≡ as_base64 (base64_after Whole (b ∷ bytes)) = rw other (base64_so (base64_goes_on Whole b) bytes) in
    ap is_bad read ∙ base64_bad (b ∷ bytes) fits ∙ ap not (sym (may_end_so (base64_after Whole (b ∷ bytes)))) ∙ sym (ap (λ p. not (payload_may_end p)) following)

-- the text is no payload exactly where it is not read to an end
pub text_bad : (text : List ℕ) → IsBytes text → is_bad (payload_read text) ≡ not (payload_may_end (payload_after Empty text))
unfolding payload_read
text_bad [] fits = base64_bad [] fits
text_bad (b ∷ bytes) fits =
    elim (cases_Bool (b == 61)) [
      | inl equals ↦
          let same : b ≡ 61 = eqb-true b 61 equals in
          equals_first b bytes same fits
      | inr other ↦ begins_otherwise b bytes other fits
    ]
  where
    equals_first : (b : ℕ) (bytes : List ℕ) → b ≡ 61 → IsBytes (b ∷ bytes) → is_bad (payload_read (b ∷ bytes)) ≡ not (payload_may_end (payload_after Empty (b ∷ bytes)))
    equals_first b bytes same fits = subst (λ c. is_bad (payload_read (c ∷ bytes)) ≡ not (payload_may_end (payload_after Empty (c ∷ bytes)))) (sym same) (begins_with_equals bytes (subst (λ c. IsBytes (c ∷ bytes)) same fits))

-- ---- nodes

-- the text of a node, and that of those behind it
node_texts : (nodes : List Node) (i : ℕ) (node : Node) → i < length nodes → node ≡ get_or nodes i node
    → text_of (nodes_view (drop i nodes)) ≡ text_of (node_view node) ++ text_of (nodes_view (drop (i + 1) nodes))
node_texts nodes i node lt is =
    let ahead : drop i nodes ≡ node ∷ drop (i + 1) nodes = drop_more nodes i node lt ∙ ap (λ n. n ∷ drop (i + 1) nodes) (sym is) in
    ap (λ ns. text_of (nodes_view ns)) ahead ∙ text_of-joined (node_view node) (nodes_view (drop (i + 1) nodes))

-- the texts ahead, behind those so far, where this is a node's text
pub node_read : (p q : PayloadText) (t : List ℕ) (nodes : List Node) (i : ℕ) (node : Node) → i < length nodes → node ≡ get_or nodes i node → text_of (node_view node) ≡ t → q ≡ payload_after p t
    → payload_after q (text_of (nodes_view (drop (i + 1) nodes))) ≡ payload_after p (text_of (nodes_view (drop i nodes)))
node_read p q t nodes i node lt is here next =
    let ahead = text_of (nodes_view (drop (i + 1) nodes)) in
    ap (λ s. payload_after s ahead) next
    ∙ sym (after_append p t ahead)
    ∙ ap (λ s. payload_after p (s ++ ahead)) (sym here)
    ∙ sym (ap (payload_after p) (node_texts nodes i node lt is))

pub node_bytes : (t : List ℕ) (nodes : List Node) (i : ℕ) (node : Node) → i < length nodes → node ≡ get_or nodes i node → text_of (node_view node) ≡ t → IsBytes t
    → IsBytes (text_of (nodes_view (drop (i + 1) nodes))) → IsBytes (text_of (nodes_view (drop i nodes)))
node_bytes t nodes i node lt is here fits ahead =
    subst IsBytes (sym (node_texts nodes i node lt is))
    (IsBytes-append (text_of (node_view node)) (text_of (nodes_view (drop (i + 1) nodes))) (subst IsBytes (sym here) fits) ahead)

-- ---- auth

-- where there is a mechanism, the payload decides
pub auth_bad : (mechanism : List ℕ) (r : Result (List ℕ) ExtFault) → is_bad (auth_with (Some mechanism) r) ≡ is_bad r
auth_bad mechanism (Ok payload) = refl
auth_bad mechanism (Err NotThis) = refl
auth_bad mechanism (Err (Bad field)) = refl
auth_bad mechanism (Err NoMemory) = refl
