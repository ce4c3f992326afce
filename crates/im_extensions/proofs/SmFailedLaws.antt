-- The refusal of stream management: what is read is exact, and what is written is read back.
use Rattle.std.proofs.Common.{◌≡◌, ◌&&◌, ℕ, Bool, true, false, not, List, [], ◌∷◌, Some, codes, find, refl, sym, ap, ◌∙◌, inl, inr}
use Rattle.std.proofs.lemmas.Bool.{cases_Bool}
use Rattle.std.specs.Option.{option_map}
use Rattle.std.specs.Str.{bytes_eq}
use Rattle.im_payload.proofs.FaultLemmas.{for_memory, one_field, same_inside}
use Rattle.im_payload.specs.Faults.{IsExact}
use Rattle.im_extensions.specs.StreamManagement.{IsSmFailed, SmFailedLacks, failed_condition, is_management, sm_failed_elem}
use Rattle.im_payload.specs.declared.fault.Field.{Field}
use Rattle.im_payload.specs.declared.fault.Field.TheVariants.{Condition}
use Rattle.im_extensions.specs.declared.stream_management.SmFailed.{SmFailed}
use Rattle.xml_trees.specs.Readers.{elements_of}
use Rattle.xml_trees.specs.Trees.{Elem, name_of, namespace_of, nodes_of}
use Rattle.im_stanza.proofs.ErrorLaws.{name_again, named_is_plain, plain_same}
use Rattle.im_stanza.specs.Conditions.{condition_name, condition_named, is_condition}
use Rattle.im_stanza.specs.declared.conditions.Condition.{Condition as StanzaCondition}
use Rattle.im_stanza.specs.Names.{stanza_errors_ns}

not_right : (x y : Bool) → (x && not y) ≡ true → y ≡ false
not_right true true h = absurd (cc h)
not_right true false h = refl
not_right false y h = absurd (cc h)

-- what is found as a condition is not named `text`
found_unlike_text : (ns : List ℕ) (es : List Elem) (name : List ℕ) → option_map name_of (find (is_condition ns) es) ≡ Some name → bytes_eq name (codes "text") ≡ false
found_unlike_text ns [] name is = absurd (cc is)
found_unlike_text ns (e ∷ es) name is =
    elim (cases_Bool (is_condition ns e)) [
      | inl here ↦
          let first : option_map name_of (find (is_condition ns) (e ∷ es)) ≡ Some (name_of e) = rw here refl in
          let names : name_of e ≡ name = same_inside (name_of e) name (sym first ∙ is) in
          ap (λ n. bytes_eq n (codes "text")) (sym names) ∙ not_right (bytes_eq (namespace_of e) ns) (bytes_eq (name_of e) (codes "text")) here
      | inr there ↦
          let later : option_map name_of (find (is_condition ns) (e ∷ es)) ≡ option_map name_of (find (is_condition ns) es) = rw there refl in
          found_unlike_text ns es name (sym later ∙ is)
    ]

condition_again : (v : SmFailed) → bytes_eq (condition_name v.condition) (codes "text") ≡ false → failed_condition (sm_failed_elem v) ≡ Some (condition_name v.condition)
condition_again v other = rw other refl

failed_again : (e : Elem) (v : SmFailed) → IsSmFailed e v → IsSmFailed (sm_failed_elem v) v
failed_again e v is = record {
  named = refl;
  condition = condition_again v (found_unlike_text stanza_errors_ns (elements_of (nodes_of e)) (condition_name v.condition) is.condition);
  plain = is.plain;
}

-- the condition that is read is that of the name
pub failed_named : (e : Elem) (name : List ℕ) (c : StanzaCondition) → is_management (codes "failed") e ≡ true → failed_condition e ≡ Some name → c ≡ condition_named name → IsSmFailed e (record { condition = c })
failed_named e name c named first is =
    rw is (record { named = named; condition = first ∙ ap Some (sym (name_again name)); plain = named_is_plain name })

condition_alone : (e : Elem) (f : Field) → SmFailedLacks e f → f ≡ Condition
condition_alone e Condition lacks = refl
condition_alone e _ lacks = absurd lacks

failed_right : (e : Elem) (v : SmFailed) (f : Field) → IsSmFailed e v → SmFailedLacks e f → ⊥
failed_right e v Condition is lacks = let both = sym is.condition ∙ lacks in cc both
failed_right e v _ is lacks = lacks

failed_one : (e : Elem) (v w : SmFailed) → IsSmFailed e v → IsSmFailed e w → v ≡ w
failed_one e v w a b i = record { condition = plain_same v.condition w.condition a.plain b.plain (same_inside _ _ (sym a.condition ∙ b.condition)) i }

pub sm_failed_exact : IsExact (is_management (codes "failed")) SmFailedLacks IsSmFailed sm_failed_elem
sm_failed_exact = record {
  one = failed_one;
  refused = λ e v fault is. for_memory _ _ fault is.named (λ f. failed_right e v f is);
  first = λ e. one_field _ Condition (condition_alone e);
  read_back = failed_again;
}
