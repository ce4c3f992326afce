-- A value, a run of plain bytes or one special byte at a time.
use Rattle.std.proofs.Common.{◌≡◌, ℕ, ◌<◌, ◌⊎◌, Bool, true, false, eqb, not, List, [], ◌∷◌, ◌++◌, Option, Some, None, length, refl, sym, ap, ◌∙◌, arith, ⊎_elim, append_assoc}
use Rattle.std.proofs.lemmas.Bool.{cases_Bool, or_parts, not-true}
use Rattle.std.proofs.lemmas.List.{append-nil, nil_from_length}
use Rattle.std.specs.Prelude.{encode_utf8}
use Rattle.xml_tokens.proofs.Splits.{length-joined, after_stops}
use Rattle.xml_tokens.specs.Fronts.{front, following}
use Rattle.xml_tokens.specs.References.{referred}
use Rattle.xml_tokens.specs.Values.{text, reference, in_front, said, value_from, is_plain}
use Rattle.xml_tokens.specs.declared.references.Reference.{Reference}
use Rattle.xml_tokens.specs.declared.references.Reference.TheVariants.{Character, Unknown, Malformed}

pub in_front-append : (a b : List ℕ) (r : Option (List ℕ)) → in_front (a ++ b) r ≡ in_front a (in_front b r)
in_front-append a b None = refl
in_front-append a b (Some v) = ap Some (append_assoc a b v)

pub in_front-nil : (r : Option (List ℕ)) → in_front [] r ≡ r
in_front-nil None = refl
in_front-nil (Some v) = refl

-- what the name of a reference says, and what stands from its `;` on
abbrev pub ended : List ℕ → List ℕ → Option (List ℕ)
ended name [] = None
ended name (c ∷ rest) = said (referred name) (value_from (text false) rest)

abbrev pub no_end : ℕ → Bool
no_end b = not (eqb b 59)

pub reference_run : (so bs : List ℕ) → value_from (reference so) bs ≡ ended (so ++ front (λ b. not (eqb b 59)) bs) (following (λ b. not (eqb b 59)) bs)
reference_run so [] = refl
reference_run so (b ∷ bs) =
    ⊎_elim
    (λ (end : eqb b 59 ≡ true). rw (end, append-nil so) refl)
    (λ (on : eqb b 59 ≡ false). rw on (reference_run (so ++ b ∷ []) bs ∙ ap (λ n. ended n (following (λ b. not (eqb b 59)) bs)) (append_assoc so (b ∷ []) (front (λ b. not (eqb b 59)) bs))))
    (cases_Bool (eqb b 59))

-- a byte that is plain
pub plain_byte : (b : ℕ) (rest : List ℕ) → is_plain b ≡ true → value_from (text false) (b ∷ rest) ≡ in_front (b ∷ []) (value_from (text false) rest)
plain_byte b rest h =
    let p = or_parts (eqb b 38) _ (not-true _ h) in
    let q = or_parts (eqb b 60) _ p.1 in
    let r = or_parts (eqb b 13) _ q.1 in
    rw (p.0, q.0, r.0, r.1) refl

pub plain_run : (bs : List ℕ) → value_from (text false) bs ≡ in_front (front is_plain bs) (value_from (text false) (following is_plain bs))
plain_run [] = refl
plain_run (b ∷ bs) =
    ⊎_elim
    (λ (plain : is_plain b ≡ true).
    plain_byte b bs plain ∙ ap (in_front (b ∷ [])) (plain_run bs)
    ∙ sym (in_front-append (b ∷ []) (front is_plain bs) (value_from (text false) (following is_plain bs)))
    ∙ (rw plain refl))
    (λ (other : is_plain b ≡ false). rw other (sym (in_front-nil (value_from (text false) (b ∷ bs)))))
    (cases_Bool (is_plain b))

reference_ends : (after : List ℕ) → value_from (reference []) after ≡ ended (front (λ b. not (eqb b 59)) after) (following (λ b. not (eqb b 59)) after)
reference_ends after = reference_run [] after

pub reference_says : (after name end rest : List ℕ) (x c : ℕ) → name ≡ front (λ b. not (eqb b 59)) after → end ≡ following (λ b. not (eqb b 59)) after → end ≡ x ∷ rest → Character c ≡ referred name
    → value_from (reference []) after ≡ in_front (encode_utf8 c) (value_from (text false) rest)
reference_says after name end rest x c is_name is_end begins says =
    reference_ends after ∙ rw (← is_name, ← is_end, begins, ← says) refl

pub reference_open : (after end : List ℕ) → end ≡ following (λ b. not (eqb b 59)) after → length end ≡ 0 → value_from (reference []) after ≡ None
reference_open after end is_end empty = reference_ends after ∙ rw (← is_end, nil_from_length end empty) refl

pub reference_fails : (after name end rest : List ℕ) (x : ℕ) (r : Reference) → name ≡ front (λ b. not (eqb b 59)) after → end ≡ following (λ b. not (eqb b 59)) after → end ≡ x ∷ rest → r ≡ referred name
    → (r ≡ Unknown) ⊎ (r ≡ Malformed) → value_from (reference []) after ≡ None
reference_fails after name end rest x r is_name is_end begins says fails =
    reference_ends after ∙ rw (← is_name, ← is_end, begins, ← says) (⊎_elim (λ e. rw e refl) (λ e. rw e refl) fails)

pub reference_shorter : (after end rest : List ℕ) (x : ℕ) → end ≡ following (λ b. not (eqb b 59)) after → end ≡ x ∷ rest → length rest < length after
reference_shorter after end rest x is_end begins =
    let both = length-joined (λ b. not (eqb b 59)) after in
    let first = ap length begins in
    let second = ap length is_end in
    omega arith

-- what is pushed stands in front of what follows
pub in_front_pushed : (old new more : List ℕ) (r s : Option (List ℕ)) → new ≡ old ++ more → s ≡ in_front more r → in_front new r ≡ in_front old s
in_front_pushed old new more r s pushed is = rw (pushed, is) (in_front-append old more r)

pub plain_taken : (new old plain special bs : List ℕ) → plain ≡ front is_plain bs → special ≡ following is_plain bs → new ≡ old ++ plain
    → in_front new (value_from (text false) special) ≡ in_front old (value_from (text false) bs)
plain_taken new old plain special bs is_front is_rest pushed =
    rw (pushed, is_front, is_rest) (in_front-append old (front is_plain bs) (value_from (text false) (following is_plain bs)) ∙ ap (in_front old) (sym (plain_run bs)))

pub special_fails : (special bs : List ℕ) → special ≡ following is_plain bs → value_from (text false) special ≡ None → value_from (text false) bs ≡ None
special_fails special bs is_rest fails = plain_run bs ∙ ap (in_front (front is_plain bs)) (ap (value_from (text false)) (sym is_rest) ∙ fails)

pub special_first : (special after bs : List ℕ) (x : ℕ) → special ≡ following is_plain bs → special ≡ x ∷ after → is_plain x ≡ false
special_first special after bs x is_rest begins = after_stops is_plain bs x after (sym is_rest ∙ begins)

pub special_within : (special after bs : List ℕ) (x : ℕ) → special ≡ following is_plain bs → special ≡ x ∷ after → length after < length bs
special_within special after bs x is_rest begins =
    let both = length-joined is_plain bs in
    let first = ap length begins in
    let second = ap length is_rest in
    omega arith

pub after_plain : (r s : Option (List ℕ)) (value special begun : List ℕ) → special ≡ begun → r ≡ in_front value (value_from (text false) begun) → in_front value (value_from (text false) special) ≡ s → r ≡ s
after_plain r s value special begun same first rest = first ∙ ap (λ l. in_front value (value_from (text false) l)) (sym same) ∙ rest
