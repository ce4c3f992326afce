-- Attributes with their expanded names, one after another.
use Rattle.std.proofs.Common.{◌≡◌, List, [], ◌∷◌, ◌++◌, Option, Some, None, map, refl, sym, ap, ◌∙◌, append_assoc}
use Rattle.std.specs.Option.{option_and_then}
use Rattle.xml_tokens.specs.RawTags.{attribute_of}
use Rattle.xml_tokens.specs.declared.raw_tags.RawAttribute.{RawAttribute}
use Rattle.xml_names.specs.Expansion.{in_front, expanded_attribute, expanded_attributes}
use Rattle.xml_names.specs.Scopes.{Scope}
use Rattle.xml_names.specs.declared.expansion.ExpandedAttribute.{ExpandedAttribute}

in_front_pushed : (es : List ExpandedAttribute) (e : ExpandedAttribute) (o : Option (List ExpandedAttribute)) → in_front (es ++ e ∷ []) o ≡ in_front es (in_front (e ∷ []) o)
in_front_pushed es e None = refl
in_front_pushed es e (Some v) = ap Some (append_assoc es (e ∷ []) v)

pub attributes_next : (scope : Scope) (found new : List ExpandedAttribute) (e : ExpandedAttribute) (a : RawAttribute) (all rest : List RawAttribute) → all ≡ a ∷ rest → Some e ≡ expanded_attribute scope (attribute_of a) → new ≡ found ++ e ∷ []
    → in_front new (expanded_attributes scope (map attribute_of rest)) ≡ in_front found (expanded_attributes scope (map attribute_of all))
attributes_next scope found new e a all rest all_is is new_is =
    let more = expanded_attributes scope (map attribute_of rest) in
    ap (λ l. in_front l more) new_is ∙ in_front_pushed found e more
    ∙ sym (ap (λ l. in_front found (expanded_attributes scope (map attribute_of l))) all_is ∙ ap (λ o. in_front found (option_and_then (λ x. in_front (x ∷ []) more) o)) (sym is))

pub attributes_stop : (scope : Scope) (found : List ExpandedAttribute) (a : RawAttribute) (all rest : List RawAttribute) → all ≡ a ∷ rest → None ≡ expanded_attribute scope (attribute_of a)
    → None ≡ in_front found (expanded_attributes scope (map attribute_of all))
attributes_stop scope found a all rest all_is is =
    let more = expanded_attributes scope (map attribute_of rest) in
    sym (ap (λ l. in_front found (expanded_attributes scope (map attribute_of l))) all_is ∙ ap (λ o. in_front found (option_and_then (λ x. in_front (x ∷ []) more) o)) (sym is))
