-- A tag of the grammar has no reference with an unknown name in its quotes.
use Rattle.std.proofs.Common.{◌≡◌, ℕ, Bool, true, false, cond, eqb, not, ◌&&◌, ◌||◌, List, [], ◌∷◌, ◌++◌, Option, Some, None, encode_utf8, append-nil, refl, sym, ap, subst, ◌∙◌, arith, ⊎_elim}
use Rattle.std.proofs.lemmas.Bool.{cases_Bool, and_parts, and_from, and_right, or_parts, eq-eqb, false≢true, false_from_ne_true, not-true, not_from_false}
use Rattle.std.proofs.lemmas.Bool.Decides.{nat_tests}
use Rattle.std.specs.List.{list_all}
use Rattle.base_lemmas.proofs.Conditions.{chosen}
use Rattle.base_lemmas.proofs.Lists.{list_all-weaker}
use Rattle.xml_tokens.specs.Characters.{is_white, is_digit, is_name_byte, is_name_start}
use Rattle.xml_tokens.specs.Fronts.{front, following}
use Rattle.xml_tokens.specs.References.{referred, is_hex_digit, number_goes_on, reference_goes_on, each_goes_on}
use Rattle.xml_tokens.specs.Tags.{Attribute, Tag, start_tag, end_tag, is_quote, is_qualified_byte, are_white, IsSpelled, AreAttributes, tag_end, IsStartTag, IsTag, has_unknown_quoted, is_restricted}
use Rattle.xml_tokens.specs.ValueGrammar.{IsValue, IsValueData, SpellsValue, data_alone, with_reference}
use Rattle.xml_tokens.specs.Values.{text, reference, said, value_from, is_unknown, begins_with, begins_unknown, has_unknown}
use Rattle.xml_tokens.specs.declared.references.Reference.{Reference}
use Rattle.xml_tokens.specs.declared.references.Reference.TheVariants.{Character, Unknown, Malformed}
use Rattle.xml_tokens.proofs.Going.{references_go_on}
use Rattle.xml_tokens.proofs.TagLaws.{qualified_all}
use Rattle.xml_tokens.proofs.ValueSpellings.{reference_said, spelled_is_said}
use Rattle.xml_tokens.proofs.ValueRuns.{ended, reference_run}

-- ---- a value has none

said_tells : (r : Reference) (o : Option (List ℕ)) (v : List ℕ) → said r o ≡ Some v → ((c : ℕ) × (r ≡ Character c)) × ((w : List ℕ) × (o ≡ Some w))
said_tells (Character c) None v e = absurd cc
said_tells (Character c) (Some w) v e = ((c, refl), (w, refl))
said_tells Unknown o v e = absurd cc
said_tells Malformed o v e = absurd cc

pub ended_tells : (name rest v : List ℕ) → ended name rest ≡ Some v → (c : ℕ) × (referred name ≡ Character c)
ended_tells name [] v e = absurd cc
ended_tells name (x ∷ xs) v e = (said_tells (referred name) (value_from (text false) xs) v e).0

number_no_ampersand : (xs : List ℕ) (b : ℕ) → number_goes_on xs b ≡ true → eqb b 38 ≡ false
number_no_ampersand [] b h = grind (arith, nat_tests)
number_no_ampersand (x ∷ xs) b h =
    ⊎_elim (λ hex. let d : is_hex_digit b ≡ true = hex.1 in hex_no_ampersand b d) (λ dec. let d : is_digit b ≡ true = dec.1 in digit_no_ampersand b d)
    (chosen (eqb x 120) (is_hex_digit b) (is_digit b) true h)
  where
    hex_no_ampersand : (b : ℕ) → is_hex_digit b ≡ true → eqb b 38 ≡ false
    hex_no_ampersand b h = grind (arith, nat_tests)

    digit_no_ampersand : (b : ℕ) → is_digit b ≡ true → eqb b 38 ≡ false
    digit_no_ampersand b h = grind (arith, nat_tests)

name_no_ampersand : (b : ℕ) → is_name_byte b ≡ true → eqb b 38 ≡ false
name_no_ampersand b h = grind (arith, nat_tests)

first_no_ampersand : (b : ℕ) → (eqb b 35 || is_name_start b) ≡ true → eqb b 38 ≡ false
first_no_ampersand b h = grind (arith, nat_tests)

goes_no_ampersand : (so : List ℕ) (b : ℕ) → reference_goes_on so b ≡ true → eqb b 38 ≡ false
unfolding reference_goes_on
goes_no_ampersand [] b h = first_no_ampersand b h
goes_no_ampersand (x ∷ xs) b h =
    ⊎_elim (λ n. number_no_ampersand xs b n.1) (λ n. name_no_ampersand b (and_parts (is_name_byte b) _ n.1).0) (chosen (eqb x 35) _ _ true h)

each_no_ampersand : (so name : List ℕ) → each_goes_on so name ≡ true → list_all (λ b. not (eqb b 38)) name ≡ true
each_no_ampersand so [] h = refl
each_no_ampersand so (b ∷ bs) h =
    let p = and_parts (reference_goes_on so b) _ h in
    and_from _ _ (not_from_false _ (goes_no_ampersand so b p.0)) (each_no_ampersand (so ++ b ∷ []) bs p.1)

character_no_ampersand : (name : List ℕ) (c : ℕ) → referred name ≡ Character c → list_all (λ b. not (eqb b 38)) name ≡ true
character_no_ampersand name c e = each_no_ampersand [] name (references_go_on name (λ bad. let clash : Malformed ≡ Character c = sym bad ∙ e in cc))

-- where a name and `;` begin, the reference ends there
fronts_same : (bs : List ℕ) → begins_with 59 (following is_name_byte bs) ≡ true → front (λ b. not (eqb b 59)) bs ≡ front is_name_byte bs
fronts_same [] h = refl
fronts_same (x ∷ xs) h =
    ⊎_elim
    (λ (part : is_name_byte x ≡ true).
    let on : eqb x 59 ≡ false = no_semicolon x part in
    let rest : begins_with 59 (following is_name_byte xs) ≡ true = subst (λ b. begins_with 59 (cond b (following is_name_byte xs) (x ∷ xs)) ≡ true) part h in
    rw (on, part) (ap (λ l. x ∷ l) (fronts_same xs rest)))
    (λ (other : is_name_byte x ≡ false).
    let end : eqb x 59 ≡ true = subst (λ b. begins_with 59 (cond b (following is_name_byte xs) (x ∷ xs)) ≡ true) other h in
    rw (end, other) refl)
    (cases_Bool (is_name_byte x))
  where
    no_semicolon : (x : ℕ) → is_name_byte x ≡ true → eqb x 59 ≡ false
    no_semicolon x h = grind (arith, nat_tests)

not_unknown : (bs v : List ℕ) → value_from (reference []) bs ≡ Some v → begins_unknown bs ≡ false
not_unknown bs v e =
    let t = ended_tells (front (λ b. not (eqb b 59)) bs) (following (λ b. not (eqb b 59)) bs) v (sym (reference_run [] bs) ∙ e) in
    false_from_ne_true _ (λ h.
    let p = and_parts (begins_with 59 (following is_name_byte bs)) _ h in
    let known : referred (front is_name_byte bs) ≡ Character t.0 = ap referred (sym (fronts_same bs p.0)) ∙ t.1 in
    false≢true (sym (ap is_unknown known) ∙ p.1))

-- bytes without `&` change nothing
passed : (plain rest : List ℕ) → list_all (λ b. not (eqb b 38)) plain ≡ true → has_unknown (plain ++ rest) ≡ has_unknown rest
passed [] rest h = refl
passed (b ∷ bs) rest h = let p = and_parts (not (eqb b 38)) _ h in rw (not-true _ p.0) (passed bs rest p.1)

no_reference : (plain : List ℕ) → IsValueData plain → list_all (λ b. not (eqb b 38)) plain ≡ true
no_reference plain h = list_all-weaker (λ b. not (eqb b 60 || eqb b 38)) (λ b. not (eqb b 38)) (λ b e. not_from_false _ (or_parts (eqb b 60) (eqb b 38) (not-true _ e)).1) plain h

value_known : (raw v : List ℕ) → SpellsValue raw v → has_unknown raw ≡ false
value_known raw v (data_alone _ _ plain says) = ap has_unknown (sym (append-nil raw)) ∙ passed raw [] (no_reference raw plain)
value_known raw v (with_reference _ _ plain name rest more c plainly known spelled is says) =
    let after = name ++ (59 ∷ rest) in
    let here : begins_unknown after ≡ false = not_unknown after (encode_utf8 c ++ more) (reference_said name rest more c known (spelled_is_said rest more spelled)) in
    ap has_unknown is ∙ passed plain (38 ∷ after) (no_reference plain plainly)
    ∙ ap (λ b. b || has_unknown after) here ∙ passed name (59 ∷ rest) (character_no_ampersand name c known) ∙ value_known rest more spelled

-- ---- a tag has none

quote_no_name : (q : ℕ) → is_quote q ≡ true → is_name_byte q ≡ false
quote_no_name q h = grind (arith, nat_tests)

quote_no_semicolon : (q : ℕ) → is_quote q ≡ true → eqb q 59 ≡ false
quote_no_semicolon q h = grind (arith, nat_tests)

quote_no_ampersand : (q : ℕ) → is_quote q ≡ true → eqb q 38 ≡ false
quote_no_ampersand q h = grind (arith, nat_tests)

front_same : (bs rest : List ℕ) (q : ℕ) → is_name_byte q ≡ false → front is_name_byte (bs ++ q ∷ rest) ≡ front is_name_byte bs
front_same [] rest q h = rw h refl
front_same (x ∷ xs) rest q h =
    ⊎_elim (λ (t : is_name_byte x ≡ true). rw t (ap (λ l. x ∷ l) (front_same xs rest q h))) (λ (f : is_name_byte x ≡ false). rw f refl) (cases_Bool (is_name_byte x))

end_same : (bs rest : List ℕ) (q : ℕ) → is_name_byte q ≡ false → eqb q 59 ≡ false → begins_with 59 (following is_name_byte (bs ++ q ∷ rest)) ≡ begins_with 59 (following is_name_byte bs)
end_same [] rest q h k = rw h k
end_same (x ∷ xs) rest q h k =
    ⊎_elim (λ (t : is_name_byte x ≡ true). rw t (end_same xs rest q h k)) (λ (f : is_name_byte x ≡ false). rw f refl) (cases_Bool (is_name_byte x))

begins_same : (bs rest : List ℕ) (q : ℕ) → is_quote q ≡ true → begins_unknown (bs ++ q ∷ rest) ≡ begins_unknown bs
begins_same bs rest q h =
    ap (λ b. b && is_unknown (referred (front is_name_byte (bs ++ q ∷ rest)))) (end_same bs rest q (quote_no_name q h) (quote_no_semicolon q h))
    ∙ ap (λ n. begins_with 59 (following is_name_byte bs) && is_unknown (referred n)) (front_same bs rest q (quote_no_name q h))

quoted_run : (q : ℕ) (raw rest : List ℕ) → is_quote q ≡ true → list_all (λ b. not (eqb b q)) raw ≡ true → has_unknown raw ≡ false → has_unknown_quoted (Some q) (raw ++ q ∷ rest) ≡ has_unknown_quoted None rest
quoted_run q [] rest h inside known = let same : eqb q q ≡ true = eq-eqb q q refl in rw (quote_no_ampersand q h, same) refl
quoted_run q (b ∷ bs) rest h inside known =
    let p = and_parts (not (eqb b q)) _ inside in
    let k = or_parts (eqb b 38 && begins_unknown bs) (has_unknown bs) known in
    let here : (eqb b 38 && begins_unknown (bs ++ q ∷ rest)) ≡ false = ap (λ x. eqb b 38 && x) (begins_same bs rest q h) ∙ k.0 in
    rw (here, not-true _ p.0) (quoted_run q bs rest h p.1 k.1)

unquoted_run : (xs ys : List ℕ) → list_all (λ b. not (is_quote b)) xs ≡ true → has_unknown_quoted None (xs ++ ys) ≡ has_unknown_quoted None ys
unquoted_run [] ys h = refl
unquoted_run (x ∷ xs) ys h = let p = and_parts (not (is_quote x)) _ h in rw (not-true _ p.0) (unquoted_run xs ys p.1)

white_unquoted : (xs : List ℕ) → are_white xs ≡ true → list_all (λ b. not (is_quote b)) xs ≡ true
white_unquoted [] h = refl
white_unquoted (x ∷ xs) h = let p = and_parts (is_white x) (are_white xs) h in and_from _ _ (not_from_false _ (apart x p.0)) (white_unquoted xs p.1)
  where
    apart : (x : ℕ) → is_white x ≡ true → is_quote x ≡ false
    apart x h = grind (arith, nat_tests)

name_unquoted : (xs : List ℕ) → list_all is_qualified_byte xs ≡ true → list_all (λ b. not (is_quote b)) xs ≡ true
name_unquoted [] h = refl
name_unquoted (x ∷ xs) h = let p = and_parts (is_qualified_byte x) _ h in and_from _ _ (not_from_false _ (apart x p.0)) (name_unquoted xs p.1)
  where
    apart : (x : ℕ) → is_qualified_byte x ≡ true → is_quote x ≡ false
    apart x h = grind (arith, nat_tests)

opening_run : (q : ℕ) (rest : List ℕ) → is_quote q ≡ true → has_unknown_quoted None (q ∷ rest) ≡ has_unknown_quoted (Some q) rest
opening_run q rest h = rw h refl

attribute_run : (bytes name raw rest v : List ℕ) → IsSpelled bytes name raw rest → IsValue raw v → has_unknown_quoted None bytes ≡ has_unknown_quoted None rest
attribute_run bytes name raw rest v h value =
    let opened = h.quote ∷ (raw ++ (h.quote ∷ rest)) in
    let gap = h.before ++ (61 ∷ (h.after ++ opened)) in
    ap (has_unknown_quoted None) h.bytes_are
    ∙ unquoted_run h.space (name ++ gap) (white_unquoted h.space h.space_white)
    ∙ unquoted_run name gap (name_unquoted name (qualified_all name h.name_is))
    ∙ unquoted_run h.before (61 ∷ (h.after ++ opened)) (white_unquoted h.before h.before_white)
    ∙ unquoted_run h.after opened (white_unquoted h.after h.after_white)
    ∙ opening_run h.quote (raw ++ (h.quote ∷ rest)) h.quote_is
    ∙ quoted_run h.quote raw rest h.quote_is h.raw_inside (value_known raw v value.spelled)

attributes_run : (attributes : List Attribute) (bytes rest : List ℕ) → AreAttributes bytes attributes rest → has_unknown_quoted None bytes ≡ has_unknown_quoted None rest
attributes_run [] bytes rest h = ap (has_unknown_quoted None) h
attributes_run (a ∷ more) bytes rest h = attribute_run bytes a.name h.1.0 h.0 a.value h.1.1 h.1.2 ∙ attributes_run more h.0 rest h.2

end_known : (empty : Bool) → has_unknown_quoted None (tag_end empty) ≡ false
end_known true = refl
end_known false = refl

start_known : (bytes name : List ℕ) (attributes : List Attribute) (empty : Bool) → IsStartTag bytes name attributes empty → has_unknown_quoted None bytes ≡ false
start_known bytes name attributes empty h =
    ap (has_unknown_quoted None) h.bytes_are
    ∙ unquoted_run name h.inside (name_unquoted name (qualified_all name h.name_is))
    ∙ attributes_run attributes h.inside (h.space ++ tag_end empty) h.inside_is
    ∙ unquoted_run h.space (tag_end empty) (white_unquoted h.space h.space_white) ∙ end_known empty

pub tag_unrestricted : (bytes : List ℕ) (t : Tag) → IsTag bytes t → is_restricted bytes ≡ false
tag_unrestricted bytes (start_tag name attributes empty) h = and_right _ _ (start_known bytes name attributes empty h)
tag_unrestricted bytes (end_tag name) h = ap is_restricted h.bytes_are
