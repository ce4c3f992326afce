-- What goes on a reference, and the last two bytes of a list.
use Rattle.std.proofs.Common.{◌≡◌, ◌≢◌, ℕ, suc, ◌-◌, ◌≤◌, Bool, true, false, cond, eqb, List, [], ◌∷◌, ◌++◌, length, get_or, refl, sym, ap, ◌∙◌, subst, arith, ⊎_elim}
use Rattle.std.proofs.lemmas.Bool.{cases_Bool, and_parts, and_from, or_left, or_right, eqb-true}
use Rattle.std.proofs.lemmas.Bool.Decides.{nat_tests}
use Rattle.std.proofs.lemmas.Slice.Eq.{bytes_eq-Decides}
use Rattle.std.specs.List.{list_all}
use Rattle.std.specs.Prelude.{codes}
use Rattle.std.specs.Str.{bytes_eq}
use Rattle.xml_tokens.specs.Characters.{is_digit, is_name_start, is_name, go_on, are_characters, are_characters_after}
use Rattle.xml_tokens.specs.References.{is_hex_digit, are_digits, number_of, character_numbered, character_reference, entity_reference, referred, last_two, reference_goes_on, each_goes_on}
use Rattle.xml_tokens.specs.declared.references.Reference.{Reference}
use Rattle.xml_tokens.specs.declared.references.Reference.TheVariants.{Unknown, Malformed}

-- the last two of a list that has them
pub record EndsAre (a b : ℕ) (xs : List ℕ) : Type 0 where
  pub first : get_or (last_two a b xs) 0 0 ≡ get_or xs (length xs - 2) 0
  pub second : get_or (last_two a b xs) 1 0 ≡ get_or xs (length xs - 1) 0

pub ends_are : (a b : ℕ) (xs : List ℕ) → 2 ≤ length xs → EndsAre a b xs
ends_are a b [] h = absurd (omega arith)
ends_are a b (x ∷ []) h = absurd (omega arith)
ends_are a b (x ∷ y ∷ []) h = record { first = refl; second = refl }
ends_are a b (x ∷ y ∷ z ∷ zs) h =
    let ih = ends_are b x (y ∷ z ∷ zs) (omega arith) in
    let p : length (x ∷ y ∷ z ∷ zs) - 2 ≡ suc (length (y ∷ z ∷ zs) - 2) = omega arith in
    let q : length (x ∷ y ∷ z ∷ zs) - 1 ≡ suc (length (y ∷ z ∷ zs) - 1) = omega arith in
    record {
      first = ih.first ∙ sym (ap (λ k. get_or (x ∷ y ∷ z ∷ zs) k 0) p);
      second = ih.second ∙ sym (ap (λ k. get_or (x ∷ y ∷ z ∷ zs) k 0) q);
    }

-- one more
last_two_more : (a b : ℕ) (xs : List ℕ) (c : ℕ) → last_two a b (xs ++ c ∷ []) ≡ get_or (last_two a b xs) 1 0 ∷ c ∷ []
last_two_more a b [] c = refl
last_two_more a b (x ∷ xs) c = last_two_more b x xs c

-- ---- digits

hexadecimal_goes_on : (so rest : List ℕ) → list_all is_hex_digit rest ≡ true → each_goes_on (35 ∷ 120 ∷ so) rest ≡ true
unfolding reference_goes_on
hexadecimal_goes_on so [] h = refl
hexadecimal_goes_on so (b ∷ bs) h = let p = and_parts _ _ h in and_from _ _ p.0 (hexadecimal_goes_on (so ++ b ∷ []) bs p.1)

decimal_goes_on : (d : ℕ) (so rest : List ℕ) → eqb d 120 ≡ false → list_all is_digit rest ≡ true → each_goes_on (35 ∷ d ∷ so) rest ≡ true
unfolding reference_goes_on
decimal_goes_on d so [] other h = refl
decimal_goes_on d so (b ∷ bs) other h =
    let p = and_parts _ _ h in
    let here : reference_goes_on (35 ∷ d ∷ so) b ≡ true = rw other p.0 in
    and_from _ _ here (decimal_goes_on d (so ++ b ∷ []) bs other p.1)

-- where a condition fails, what it guards isn't there
guarded : (b : Bool) (r : Reference) → cond b r Malformed ≢ Malformed → b ≡ true
guarded true r h = refl
guarded false r h = absurd (h refl)

digits_all : (p : ℕ → Bool) (ds : List ℕ) → are_digits p ds ≡ true → list_all p ds ≡ true
digits_all p [] h = refl
digits_all p (d ∷ ds) h = h

digit_no_x : (d : ℕ) → is_digit d ≡ true → eqb d 120 ≡ false
digit_no_x d h = grind (arith, nat_tests)

numbers_go_on : (bs : List ℕ) → character_reference bs ≢ Malformed → each_goes_on (35 ∷ []) bs ≡ true
unfolding reference_goes_on
numbers_go_on [] h = refl
numbers_go_on (b ∷ bs) h =
    ⊎_elim
    (λ (hex : eqb b 120 ≡ true).
    let digits = digits_all is_hex_digit bs (guarded (are_digits is_hex_digit bs) (character_numbered (number_of 16 bs)) (λ e. h (rw hex e))) in
    let rest : each_goes_on (35 ∷ 120 ∷ []) bs ≡ true = hexadecimal_goes_on [] bs digits in
    and_from _ _ (or_left (eqb b 120) _ hex) (rw (eqb-true b 120 hex) rest))
    (λ (other : eqb b 120 ≡ false).
    let digits : list_all is_digit (b ∷ bs) ≡ true = digits_all is_digit (b ∷ bs) (guarded (are_digits is_digit (b ∷ bs)) (character_numbered (number_of 10 (b ∷ bs))) (λ e. h (rw other e))) in
    let p = and_parts _ _ digits in
    and_from _ _ (or_right (eqb b 120) _ p.0) (decimal_goes_on b [] bs other p.1))
    (cases_Bool (eqb b 120))

-- ---- names

names_go_on : (x : ℕ) (so rest : List ℕ) → eqb x 35 ≡ false → go_on rest ≡ true
    → are_characters_after (get_or (last_two 0 0 (x ∷ so)) 0 0) (get_or (last_two 0 0 (x ∷ so)) 1 0) rest ≡ true
    → each_goes_on (x ∷ so) rest ≡ true
unfolding reference_goes_on
names_go_on x so [] other h k = refl
names_go_on x so (b ∷ bs) other h k =
    let p = and_parts _ _ h in
    let q = and_parts _ _ k in
    let here : reference_goes_on (x ∷ so) b ≡ true = rw other (and_from _ _ p.0 q.0) in
    let more = last_two_more 0 0 (x ∷ so) b in
    let following : are_characters_after (get_or (last_two 0 0 (x ∷ (so ++ b ∷ []))) 0 0) (get_or (last_two 0 0 (x ∷ (so ++ b ∷ []))) 1 0) bs ≡ true = rw more q.1 in
    and_from _ _ here (names_go_on x (so ++ b ∷ []) bs other p.1 following)

-- what is an entity's reference has a name
named : (name : List ℕ) → entity_reference name ≢ Malformed → is_name name ≡ true
unfolding are_characters
named name h =
    chosen (bytes_eq name (codes "amp")) _ _ (is_name name ≡ true) h (λ e. known (codes "amp") refl e)
    (λ h. chosen (bytes_eq name (codes "lt")) _ _ (is_name name ≡ true) h (λ e. known (codes "lt") refl e)
    (λ h. chosen (bytes_eq name (codes "gt")) _ _ (is_name name ≡ true) h (λ e. known (codes "gt") refl e)
    (λ h. chosen (bytes_eq name (codes "apos")) _ _ (is_name name ≡ true) h (λ e. known (codes "apos") refl e)
    (λ h. chosen (bytes_eq name (codes "quot")) _ _ (is_name name ≡ true) h (λ e. known (codes "quot") refl e)
    (λ h. guarded (is_name name) Unknown h)))))
  where
    known : (word : List ℕ) → is_name word ≡ true → bytes_eq name word ≡ true → is_name name ≡ true
    known word good e = subst (λ w. is_name w ≡ true) (sym ((bytes_eq-Decides name word).0 e)) good

    chosen : (b : Bool) (x y : Reference) (P : Type 0) → cond b x y ≢ Malformed → (b ≡ true → P) → (y ≢ Malformed → P) → P
    chosen true x y P h taken passed = taken refl
    chosen false x y P h taken passed = passed h

pub references_go_on : (name : List ℕ) → referred name ≢ Malformed → each_goes_on [] name ≡ true
unfolding referred reference_goes_on are_characters
references_go_on [] h = refl
references_go_on (b ∷ bs) h =
    ⊎_elim
    (λ (number : eqb b 35 ≡ true).
    let rest = numbers_go_on bs (λ e. h (rw number e)) in
    and_from _ _ (or_left (eqb b 35) _ number) (rw (eqb-true b 35 number) rest))
    (λ (other : eqb b 35 ≡ false).
    let p = and_parts _ _ (named (b ∷ bs) (λ e. h (rw other e))) in
    let q = and_parts (is_name_start b) (go_on bs) p.0 in
    let r = and_parts _ _ p.1 in
    and_from _ _ (or_right (eqb b 35) _ q.0) (names_go_on b [] bs other q.1 r.1))
    (cases_Bool (eqb b 35))
