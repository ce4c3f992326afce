-- Errors are read by their relation, and what is written of them is read back.
use Rattle.std.proofs.Common.{◌≡◌, ◌≢◌, ◌↔◌, ℕ, false, cond, List, Option, Some, None, Ok, Err, IfSome, refl, sym, ◌∙◌, ap, ◌⊎◌, inl, inr, codes}
use Rattle.std.specs.Str.{bytes_eq}
use Rattle.std.proofs.lemmas.Bool.{cases_Bool}
use Rattle.xml_trees.specs.Readers.{child_of}
use Rattle.xml_trees.specs.Tidied.{tidied}
use Rattle.xml_trees.specs.Trees.{Elem, IsTree, nodes_of}
use Rattle.xml_trees.proofs.TidyLaws.{tidied_stays}
use Rattle.im_stanza.proofs.KindLemmas.{same_bytes, error_kind_is, error_kind_unique, error_reads, spelled_is}
use Rattle.im_stanza.specs.Conditions.{condition_in, condition_name, condition_named, IsKnown, IsPlain}
use Rattle.im_stanza.specs.Errors.{HasNoError, IsStanzaError, error_elem, error_in, error_kind, error_kind_named, error_type, error_with, stanza_error_of, stream_error_elem}
use Rattle.im_stanza.specs.Names.{client_ns, stanza_errors_ns, stream_errors_ns}
use Rattle.im_stanza.specs.Stanzas.{attr_named}
use Rattle.im_stanza.specs.declared.conditions.Condition.{Condition}
use Rattle.im_stanza.specs.declared.conditions.Condition.TheVariants.{BadRequest, FeatureNotImplemented, ItemNotFound, JidMalformed, RemoteServerNotFound, ResourceConstraint, ServiceUnavailable, UnexpectedRequest, Other}
use Rattle.im_stanza.specs.declared.errors.ErrorKind.{ErrorKind}
use Rattle.im_stanza.specs.declared.errors.StanzaError.{StanzaError}
use Rattle.im_stanza.specs.declared.fault.StanzaErrorFault.TheVariants.{NoError}

-- a condition that has a variant of its own is read as that variant
known_again : (c : Condition) → IsKnown c → condition_named (condition_name c) ≡ c
known_again BadRequest h = refl
known_again FeatureNotImplemented h = refl
known_again ItemNotFound h = refl
known_again JidMalformed h = refl
known_again RemoteServerNotFound h = refl
known_again ResourceConstraint h = refl
known_again ServiceUnavailable h = refl
known_again UnexpectedRequest h = refl
known_again (Other name) h = absurd h

-- a chain of tests reads a condition of this name
step : (name : List ℕ) (c more : Condition) → condition_name more ≡ name → condition_name (cond (bytes_eq name (condition_name c)) c more) ≡ name
step name c more rest =
    elim (cases_Bool (bytes_eq name (condition_name c))) [ inl e ↦ rw e (sym (same_bytes name (condition_name c) e)) | inr e ↦ rw e rest ]

-- the condition with a name has that name
pub name_again : (name : List ℕ) → condition_name (condition_named name) ≡ name
name_again name =
    step name BadRequest _ (step name FeatureNotImplemented _ (step name ItemNotFound _ (step name JidMalformed _ (step name RemoteServerNotFound _ (step name ResourceConstraint _ (step name ServiceUnavailable _ (step name UnexpectedRequest _ refl)))))))

-- and is the one that has a variant of its own, where there is one
pub named_is_plain : (name : List ℕ) → IsPlain (condition_named name)
named_is_plain name known is_known same = ap condition_named (sym (same ∙ name_again name)) ∙ known_again known is_known

known_or_other : (c : Condition) → IsKnown c ⊎ ((name : List ℕ) × (c ≡ Other name))
known_or_other BadRequest = inl tt
known_or_other FeatureNotImplemented = inl tt
known_or_other ItemNotFound = inl tt
known_or_other JidMalformed = inl tt
known_or_other RemoteServerNotFound = inl tt
known_or_other ResourceConstraint = inl tt
known_or_other ServiceUnavailable = inl tt
known_or_other UnexpectedRequest = inl tt
known_or_other (Other name) = inr (name, refl)

-- two plain conditions of one name are one
pub plain_same : (c d : Condition) → IsPlain c → IsPlain d → condition_name c ≡ condition_name d → c ≡ d
plain_same c d plain_c plain_d same =
    elim (known_or_other c) [
      | inl known ↦ sym (plain_d c known same)
      | inr other ↦ elim (known_or_other d) [
        | inl known ↦ plain_c d known (sym same)
        | inr others ↦
            let names : other.0 ≡ others.0 = sym (ap condition_name other.1) ∙ same ∙ ap condition_name others.1 in
            other.1 ∙ ap Other names ∙ sym others.1
      ]
    ]

error_built : (tree there : Elem) (name : List ℕ) (e : StanzaError) → child_of client_ns (codes "error") tree ≡ Some there → condition_in stanza_errors_ns (nodes_of there) ≡ Some name
    → record { kind = error_kind (attr_named (codes "type") there); condition = condition_named name } ≡ e → IsStanzaError tree e
error_built tree there name e first condition is =
    rw (← is) (record {
      error = there;
      first = first;
      kind = error_kind_is (attr_named (codes "type") there);
      condition = condition ∙ ap Some (sym (name_again name));
      plain = named_is_plain name;
    })

with_cases : (tree : Elem) (found : Option Elem) (e : StanzaError) → child_of client_ns (codes "error") tree ≡ found → error_in found ≡ Ok e → IsStanzaError tree e
with_cases tree None e first is = absurd cc
with_cases tree (Some there) e first is = condition_cases (condition_in stanza_errors_ns (nodes_of there)) refl is
  where
    condition_cases : (found : Option (List ℕ)) → condition_in stanza_errors_ns (nodes_of there) ≡ found → error_with (error_kind (attr_named (codes "type") there)) found ≡ Ok e → IsStanzaError tree e
    condition_cases None condition is = absurd cc
    condition_cases (Some name) condition is = error_built tree there name e first condition cc

error_to : (tree : Elem) (e : StanzaError) → IsStanzaError tree e → stanza_error_of tree ≡ Ok e
error_to tree e is =
    ap error_in is.first ∙ ap (error_with _) is.condition
    ∙ (λ i. Ok (record { kind = sym (error_kind_unique (attr_named (codes "type") is.error) e.kind is.kind) i; condition = plain_same (condition_named (condition_name e.condition)) e.condition (named_is_plain (condition_name e.condition)) is.plain (name_again (condition_name e.condition)) i }))

pub error_law : (tree : Elem) (e : StanzaError) → (stanza_error_of tree ≡ Ok e) ↔ IsStanzaError tree e
error_law tree e = (with_cases tree (child_of client_ns (codes "error") tree) e refl, error_to tree e)

no_condition : (kind : ErrorKind) (found : Option (List ℕ)) → error_with kind found ≡ Err NoError → found ≡ None
no_condition kind None is = refl
no_condition kind (Some name) is = absurd cc

no_error_to : (tree : Elem) (found : Option Elem) → child_of client_ns (codes "error") tree ≡ found → HasNoError tree → error_in found ≡ Err NoError
no_error_to tree None first none = refl
no_error_to tree (Some e) first none = ap (error_with _) (none e first)

pub no_error_law : (tree : Elem) → (stanza_error_of tree ≡ Err NoError) ↔ HasNoError tree
no_error_law tree = (
  λ is e first. no_condition _ _ (ap error_in (sym first) ∙ is),
  no_error_to tree (child_of client_ns (codes "error") tree) refl,
)

-- a name other than `text` names a condition
unlike_text : (name : List ℕ) → name ≢ codes "text" → bytes_eq name (codes "text") ≡ false
unlike_text name other = elim (cases_Bool (bytes_eq name (codes "text"))) [ inl e ↦ absurd (other (same_bytes name (codes "text") e)) | inr e ↦ e ]

written_condition : (e : StanzaError) → condition_name e.condition ≢ codes "text" → condition_in stanza_errors_ns (nodes_of (error_elem e)) ≡ Some (condition_name e.condition)
written_condition e other = let t = unlike_text (condition_name e.condition) other in rw t refl

pub error_read_back : (tree : Elem) (e : StanzaError) → child_of client_ns (codes "error") tree ≡ Some (error_elem e) → IsPlain e.condition → condition_name e.condition ≢ codes "text" → stanza_error_of tree ≡ Ok e
error_read_back tree e first plain other =
    error_to tree e (record {
      error = error_elem e;
      first = first;
      kind = spelled_is error_type _ error_kind_named error_reads e.kind;
      condition = written_condition e other;
      plain = plain;
    })

pub error_stays : (e : StanzaError) → tidied (error_elem e) ≡ error_elem e
error_stays e = refl

pub stream_read_back : (condition : List ℕ) (extra : Option Elem) → condition ≢ codes "text" → condition_in stream_errors_ns (nodes_of (tidied (stream_error_elem condition extra))) ≡ Some condition
stream_read_back condition extra other = let t = unlike_text condition other in rw t refl

pub stream_stays : (condition : List ℕ) (extra : Option Elem) → IfSome extra IsTree → tidied (stream_error_elem condition extra) ≡ stream_error_elem condition extra
stream_stays condition None tree = refl
stream_stays condition (Some extra) tree = ap (λ x. stream_error_elem condition (Some x)) (tidied_stays extra tree)
