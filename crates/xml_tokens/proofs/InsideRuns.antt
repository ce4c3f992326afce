-- The attributes of a tag, one at a time.
use Rattle.std.proofs.Common.{◌≡◌, ℕ, zero, suc, ◌<◌, Bool, List, [], ◌∷◌, ◌++◌, Option, Some, None, length, refl, sym, ap, ◌∙◌, arith, append_assoc}
use Rattle.std.proofs.lemmas.List.{append-nil}
use Rattle.std.specs.Option.{option_map, option_and_then}
use Rattle.xml_tokens.specs.Characters.{is_white}
use Rattle.xml_tokens.specs.Fronts.{following}
use Rattle.xml_tokens.specs.Values.{value_of}
use Rattle.xml_tokens.specs.Tags.{Attribute, Spelled, Found, Inside, found, attribute_at, spelled_at, end_in, with_more, unless_ended, inside_within, inside_of}
use Rattle.xml_tokens.proofs.TagWords.{spelled_shorter}

-- what an attribute at the front is
pub record Finds (bs : List ℕ) (f : Found) : Type 0 where
  pub as_spelled : Spelled
  pub spelled_is : spelled_at bs ≡ Some as_spelled
  pub value_is : value_of as_spelled.raw ≡ Some f.attribute.value
  pub name_is : f.attribute.name ≡ as_spelled.name
  pub rest_is : f.rest ≡ as_spelled.rest

found_tells : (bs : List ℕ) (o : Option Spelled) (f : Found) → spelled_at bs ≡ o → option_and_then found o ≡ Some f → Finds bs f
found_tells bs None f is e = absurd cc
found_tells bs (Some s) f is e = with_value (value_of s.raw) refl e
  where
    made : List ℕ → Found
    made v = record { attribute = record { name = s.name; value = v }; rest = s.rest }

    with_value : (v : Option (List ℕ)) → value_of s.raw ≡ v → option_map made v ≡ Some f → Finds bs f
    with_value None v_is e = absurd cc
    with_value (Some v) v_is e =
        let same : made v ≡ f = cc in
        record {
          as_spelled = s;
          spelled_is = is;
          value_is = v_is ∙ ap (λ (g : Found). Some g.attribute.value) same;
          name_is = sym (ap (λ (g : Found). g.attribute.name) same);
          rest_is = sym (ap (λ (g : Found). g.rest) same);
        }

pub finds : (bs : List ℕ) (f : Found) → attribute_at bs ≡ Some f → Finds bs f
finds bs f e = found_tells bs (spelled_at bs) f refl e

pub found_shorter : (bs : List ℕ) (f : Found) → attribute_at bs ≡ Some f → length f.rest < length bs
found_shorter bs f e =
    let h = finds bs f e in
    let less = spelled_shorter bs h.as_spelled h.spelled_is in
    rw h.rest_is less

and_then_same : (o : Option Found) (g h : Found → Option Inside) → ((f : Found) → o ≡ Some f → g f ≡ h f) → option_and_then g o ≡ option_and_then h o
and_then_same None g h same = refl
and_then_same (Some f) g h same = same f refl

-- enough is enough
enough : (k j : ℕ) (bs : List ℕ) → length bs < k → length bs < j → inside_within k bs ≡ inside_within j bs
enough zero j bs p q = absurd (omega arith)
enough (suc k) zero bs p q = absurd (omega arith)
enough (suc k) (suc j) bs p q =
    ap (unless_ended (end_in (following is_white bs)))
    (and_then_same (attribute_at bs) (λ f. with_more (f.attribute ∷ []) (inside_within k f.rest)) (λ f. with_more (f.attribute ∷ []) (inside_within j f.rest))
    (λ f e. let less = found_shorter bs f e in ap (with_more (f.attribute ∷ [])) (enough k j f.rest (omega arith) (omega arith))))

pub inside_step : (bs : List ℕ) → inside_of bs ≡ unless_ended (end_in (following is_white bs)) (option_and_then (λ f. with_more (f.attribute ∷ []) (inside_of f.rest)) (attribute_at bs))
unfolding inside_of
inside_step bs =
    ap (unless_ended (end_in (following is_white bs)))
    (and_then_same (attribute_at bs) (λ f. with_more (f.attribute ∷ []) (inside_within (length bs) f.rest)) (λ f. with_more (f.attribute ∷ []) (inside_within (suc (length f.rest)) f.rest))
    (λ f e. let less = found_shorter bs f e in ap (with_more (f.attribute ∷ [])) (enough (length bs) (suc (length f.rest)) f.rest (omega arith) (omega arith))))

with_more-append : (a b : List Attribute) (i : Option Inside) → with_more (a ++ b) i ≡ with_more a (with_more b i)
with_more-append a b None = refl
with_more-append a b (Some i) = ap (λ l. Some (record { attributes = l; empty = i.empty })) (append_assoc a b i.attributes)

pub with_more-nil : (i : Option Inside) → with_more [] i ≡ i
with_more-nil None = refl
with_more-nil (Some i) = refl

pub inside_ends : (more : List Attribute) (rest : List ℕ) (end : Option Bool) (empty : Bool) → end ≡ end_in (following is_white rest) → end ≡ Some empty → with_more more (inside_of rest) ≡ Some (record { attributes = more; empty = empty })
inside_ends more rest end empty end_is is =
    ap (with_more more) (inside_step rest ∙ ap (λ e. unless_ended e (option_and_then (λ f. with_more (f.attribute ∷ []) (inside_of f.rest)) (attribute_at rest))) (sym end_is ∙ is))
    ∙ ap (λ l. Some (record { attributes = l; empty = empty })) (append-nil more)

not_ended : (rest : List ℕ) (end : Option Bool) → end ≡ end_in (following is_white rest) → end ≡ None → inside_of rest ≡ option_and_then (λ f. with_more (f.attribute ∷ []) (inside_of f.rest)) (attribute_at rest)
not_ended rest end end_is is =
    inside_step rest ∙ ap (λ e. unless_ended e (option_and_then (λ f. with_more (f.attribute ∷ []) (inside_of f.rest)) (attribute_at rest))) (sym end_is ∙ is)

pub inside_goes_on : (more pushed : List Attribute) (rest : List ℕ) (end : Option Bool) (a : Attribute) (left : List ℕ) → end ≡ end_in (following is_white rest) → end ≡ None
    → attribute_at rest ≡ Some (record { attribute = a; rest = left }) → pushed ≡ more ++ a ∷ [] → with_more pushed (inside_of left) ≡ with_more more (inside_of rest)
inside_goes_on more pushed rest end a left end_is is finds pushed_is =
    ap (λ l. with_more l (inside_of left)) pushed_is ∙ with_more-append more (a ∷ []) (inside_of left)
    ∙ ap (with_more more) (sym (not_ended rest end end_is is ∙ ap (option_and_then (λ f. with_more (f.attribute ∷ []) (inside_of f.rest))) finds))

pub inside_fails : (rest : List ℕ) (end : Option Bool) → end ≡ end_in (following is_white rest) → end ≡ None → attribute_at rest ≡ None → inside_of rest ≡ None
inside_fails rest end end_is is none = not_ended rest end end_is is ∙ ap (option_and_then (λ f. with_more (f.attribute ∷ []) (inside_of f.rest))) none
