-- A byte goes on a reference exactly where what is there then is a part of one.
use Rattle.std.proofs.Common.{◌≡◌, ◌≢◌, ℕ, ◌↔◌, inl, inr, ⊎_elim, Bool, true, false, not, ◌&&◌, ◌||◌, ◌==◌, if◌then◌else◌, List, [], ◌∷◌, ◌++◌, codes, refl, sym, ap, subst, ◌∙◌, append_assoc, append-nil, arith, get_or}
use Rattle.std.proofs.lemmas.Bool.{and_from, and_parts, cases_Bool, eqb-true, false≢true, or_right}
use Rattle.std.proofs.lemmas.Bool.Decides.{nat_tests}
use Rattle.std.specs.List.{list_all}
use Rattle.std.specs.Str.{bytes_eq}
use Rattle.xml_tokens.proofs.Going.{references_go_on}
use Rattle.xml_tokens.specs.Characters.{are_characters, are_characters_after, ends_forbidden, go_on, is_digit, is_name, is_name_byte, is_name_start}
use Rattle.xml_tokens.specs.References.{are_digits, each_goes_on, ends_forbidden_after, entity_reference, is_hex_digit, last_two, number_goes_on, reference_goes_on, referred}
use Rattle.xml_tokens.specs.declared.references.Reference.{Reference}
use Rattle.xml_tokens.specs.declared.references.Reference.TheVariants as reference
use Rattle.law_xml.specs.ReferenceParts.{IsNumberPart, IsReferencePart, decimal, hexadecimal, sharp, sharp_x}

unknown_well : (r : Reference) → r ≡ reference.Unknown → r ≢ reference.Malformed
unknown_well r e f = let g : reference.Unknown ≡ reference.Malformed = sym e ∙ f in cc

known_well : (c : ℕ) → reference.Character c ≢ reference.Malformed
known_well c e = cc

-- ---- each byte goes on

along : (so name : List ℕ) (b : ℕ) (rest : List ℕ) → each_goes_on so (name ++ b ∷ rest) ≡ true → reference_goes_on (so ++ name) b ≡ true
along so [] b rest h = subst (λ l. reference_goes_on l b ≡ true) (sym (append-nil so)) (and_parts _ _ h).0
along so (x ∷ xs) b rest h = subst (λ l. reference_goes_on l b ≡ true) (append_assoc so (x ∷ []) xs) (along (so ++ x ∷ []) xs b rest (and_parts _ _ h).1)

each_more : (so name : List ℕ) (b : ℕ) → each_goes_on so name ≡ true → reference_goes_on (so ++ name) b ≡ true → each_goes_on so (name ++ b ∷ []) ≡ true
each_more so [] b h e = and_from _ _ (subst (λ l. reference_goes_on l b ≡ true) (append-nil so) e) refl
each_more so (x ∷ xs) b h e =
    let p = and_parts _ _ h in and_from _ _ p.0 (each_more (so ++ x ∷ []) xs b p.1 (subst (λ l. reference_goes_on l b ≡ true) (sym (append_assoc so (x ∷ []) xs)) e))

pub departs : (name rest : List ℕ) (b : ℕ) → reference_goes_on name b ≡ false → referred (name ++ b ∷ rest) ≡ reference.Malformed
departs name rest b ends = by (referred (name ++ b ∷ rest)) refl
  where
    refuse : referred (name ++ b ∷ rest) ≢ reference.Malformed → ⊥
    refuse well = false≢true (sym ends ∙ along [] name b rest (references_go_on (name ++ b ∷ rest) well))

    by : (r : Reference) → referred (name ++ b ∷ rest) ≡ r → r ≡ reference.Malformed
    by reference.Malformed e = refl
    by reference.Unknown e = absurd (refuse (unknown_well (referred (name ++ b ∷ rest)) e))
    by (reference.Character c) e = absurd (refuse (λ f. known_well c (sym e ∙ f)))

-- ---- numbers

hex_each : (so rest : List ℕ) → list_all is_hex_digit rest ≡ true → each_goes_on (35 ∷ 120 ∷ so) rest ≡ true
unfolding reference_goes_on
hex_each so [] h = refl
hex_each so (b ∷ bs) h = let p = and_parts _ _ h in and_from _ _ p.0 (hex_each (so ++ b ∷ []) bs p.1)

hex_all : (so rest : List ℕ) → each_goes_on (35 ∷ 120 ∷ so) rest ≡ true → list_all is_hex_digit rest ≡ true
unfolding reference_goes_on
hex_all so [] h = refl
hex_all so (b ∷ bs) h = let p = and_parts _ _ h in and_from _ _ p.0 (hex_all (so ++ b ∷ []) bs p.1)

decimal_each : (d : ℕ) (so rest : List ℕ) → (d == 120) ≡ false → list_all is_digit rest ≡ true → each_goes_on (35 ∷ d ∷ so) rest ≡ true
unfolding reference_goes_on
decimal_each d so [] other h = refl
decimal_each d so (b ∷ bs) other h =
    let p = and_parts _ _ h in
    let here : reference_goes_on (35 ∷ d ∷ so) b ≡ true = rw other p.0 in and_from _ _ here (decimal_each d (so ++ b ∷ []) bs other p.1)

decimal_all : (d : ℕ) (so rest : List ℕ) → (d == 120) ≡ false → each_goes_on (35 ∷ d ∷ so) rest ≡ true → list_all is_digit rest ≡ true
unfolding reference_goes_on
decimal_all d so [] other h = refl
decimal_all d so (b ∷ bs) other h =
    let p = and_parts _ _ h in
    let first : (if d == 120 then is_hex_digit b else is_digit b) ≡ true = p.0 in
    let here : is_digit b ≡ true = rw other at first in and_from _ _ here (decimal_all d (so ++ b ∷ []) bs other p.1)

digit_no_x : (d : ℕ) → is_digit d ≡ true → (d == 120) ≡ false
digit_no_x d h = grind (arith, nat_tests)

number_each : (part : List ℕ) → IsNumberPart part → each_goes_on [] part ≡ true
unfolding reference_goes_on
number_each part (sharp _ is) = subst (λ l. each_goes_on [] l ≡ true) (sym is) refl
number_each part (sharp_x _ is) = subst (λ l. each_goes_on [] l ≡ true) (sym is) refl
number_each part (decimal _ digits is all) = subst (λ l. each_goes_on [] l ≡ true) (sym is) (by digits all)
  where
    by : (ds : List ℕ) → are_digits is_digit ds ≡ true → each_goes_on [] (35 ∷ ds) ≡ true
    by [] h = absurd (false≢true h)
    by (d ∷ ds) h = let p = and_parts (is_digit d) (list_all is_digit ds) h in and_from _ _ (or_right (d == 120) (is_digit d) p.0) (decimal_each d [] ds (digit_no_x d p.0) p.1)
number_each part (hexadecimal _ digits is all) = subst (λ l. each_goes_on [] l ≡ true) (sym is) (by digits all)
  where
    by : (ds : List ℕ) → are_digits is_hex_digit ds ≡ true → each_goes_on [] (35 ∷ 120 ∷ ds) ≡ true
    by [] h = absurd (false≢true h)
    by (d ∷ ds) h = hex_each [] (d ∷ ds) h

part_each : (part : List ℕ) → IsReferencePart part → each_goes_on [] part ≡ true
part_each part (inl none) = ap (each_goes_on []) none
part_each part (inr (inl number)) = number_each part number
part_each part (inr (inr well)) = references_go_on part well

number_form : (bs : List ℕ) → each_goes_on (35 ∷ []) bs ≡ true → IsNumberPart (35 ∷ bs)
unfolding reference_goes_on
number_form [] h = sharp (35 ∷ []) refl
number_form (d ∷ ds) h =
    let p = and_parts _ _ h in
    ⊎_elim (λ (x : (d == 120) ≡ true). hexadecimals ds (eqb-true d 120 x) (hex_all [] ds (subst (λ y. each_goes_on (35 ∷ y ∷ []) ds ≡ true) (eqb-true d 120 x) p.1)))
    (λ (x : (d == 120) ≡ false). decimal (35 ∷ d ∷ ds) (d ∷ ds) refl (and_from _ _ (second x p.0) (decimal_all d [] ds x p.1))) (cases_Bool (d == 120))
  where
    second : (d == 120) ≡ false → (d == 120 || is_digit d) ≡ true → is_digit d ≡ true
    second x h = rw x at h

    hexadecimals : (l : List ℕ) → d ≡ 120 → list_all is_hex_digit l ≡ true → IsNumberPart (35 ∷ d ∷ l)
    hexadecimals [] is h = sharp_x (35 ∷ d ∷ []) (ap (λ y. 35 ∷ y ∷ []) is)
    hexadecimals (y ∷ ys) is h = hexadecimal (35 ∷ d ∷ y ∷ ys) (y ∷ ys) (ap (λ z. 35 ∷ z ∷ y ∷ ys) is) h

-- ---- names

last_two_more : (a b : ℕ) (xs : List ℕ) (c : ℕ) → last_two a b (xs ++ c ∷ []) ≡ get_or (last_two a b xs) 1 0 ∷ c ∷ []
last_two_more a b [] c = refl
last_two_more a b (x ∷ xs) c = last_two_more b x xs c

names_go : (x : ℕ) (so rest : List ℕ) → (x == 35) ≡ false → each_goes_on (x ∷ so) rest ≡ true
    → (go_on rest ≡ true) × (are_characters_after (get_or (last_two 0 0 (x ∷ so)) 0 0) (get_or (last_two 0 0 (x ∷ so)) 1 0) rest ≡ true)
unfolding reference_goes_on
names_go x so [] other h = (refl, refl)
names_go x so (b ∷ bs) other h =
    let p = and_parts _ _ h in
    let first : (if x == 35 then number_goes_on so b else (is_name_byte b && not (ends_forbidden_after (x ∷ so) b))) ≡ true = p.0 in
    let both : (is_name_byte b && not (ends_forbidden_after (x ∷ so) b)) ≡ true = rw other at first in
    let here = and_parts _ _ both in
    let rest = names_go x (so ++ b ∷ []) bs other p.1 in
    let more = last_two_more 0 0 (x ∷ so) b in
    let later = rest.1 in
    let following : are_characters_after (get_or (last_two 0 0 (x ∷ so)) 1 0) b bs ≡ true = rw more at later in
    (and_from _ _ here.0 rest.0, and_from _ _ here.1 following)

entity_well : (name : List ℕ) → is_name name ≡ true → entity_reference name ≢ reference.Malformed
entity_well name h =
    chosen (bytes_eq name (codes "amp")) 38 _ (chosen (bytes_eq name (codes "lt")) 60 _ (chosen (bytes_eq name (codes "gt")) 62 _ (chosen (bytes_eq name (codes "apos")) 39 _ (chosen (bytes_eq name (codes "quot")) 34 _ last))))
  where
    chosen : (b : Bool) (c : ℕ) (y : Reference) → y ≢ reference.Malformed → (if b then reference.Character c else y) ≢ reference.Malformed
    chosen true c y h = known_well c
    chosen false c y h = h

    last : (if is_name name then reference.Unknown else reference.Malformed) ≢ reference.Malformed
    last e = unknown_well reference.Unknown refl (rw h at e)

start_character : (x : ℕ) → is_name_start x ≡ true → not (ends_forbidden 0 0 x) ≡ true
start_character x h = grind (arith, nat_tests)

whole_form : (part : List ℕ) → each_goes_on [] part ≡ true → IsReferencePart part
unfolding referred reference_goes_on are_characters
whole_form [] h = inl refl
whole_form (x ∷ xs) h =
    let p = and_parts _ _ h in
    ⊎_elim (λ (number : (x == 35) ≡ true). let is = eqb-true x 35 number in inr (inl (subst (λ y. IsNumberPart (y ∷ xs)) (sym is) (number_form xs (subst (λ y. each_goes_on (y ∷ []) xs ≡ true) is p.1)))))
    (λ (other : (x == 35) ≡ false).
    let first : (x == 35 || is_name_start x) ≡ true = p.0 in
    let starts : is_name_start x ≡ true = rw other at first in
    let q = names_go x [] xs other p.1 in
    let named : is_name (x ∷ xs) ≡ true = and_from _ _ (and_from _ _ starts q.0) (and_from _ _ (start_character x starts) q.1) in
    inr (inr (λ e. entity_well (x ∷ xs) named (rw other at e))))
    (cases_Bool (x == 35))

pub goes_on_exactly : (name : List ℕ) (b : ℕ) → IsReferencePart name → (reference_goes_on name b ≡ true) ↔ IsReferencePart (name ++ b ∷ [])
goes_on_exactly name b part = (λ e. whole_form (name ++ b ∷ []) (each_more [] name b (part_each name part) e), λ more. along [] name b [] (part_each (name ++ b ∷ []) more))
