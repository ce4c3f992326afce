-- What is written, a run of plain bytes or one escaped byte at a time.
use Rattle.std.proofs.Common.{◌≡◌, ℕ, ◌+◌, ◌<◌, ◌≤◌, Bool, true, false, eqb, List, [], ◌∷◌, ◌++◌, length, min, refl, sym, ap, ◌∙◌, arith, ⊎_elim, append_assoc, length-append}
use Rattle.std.proofs.lemmas.Bool.{cases_Bool, and_parts, or_parts, not-true}
use Rattle.std.proofs.lemmas.Bool.Decides.{nat_tests}
use Rattle.std.specs.List.{flat_map}
use Rattle.xml_tokens.specs.Fronts.{front, following}
use Rattle.xml_tokens.specs.Spelling.{text_byte, value_byte, written_byte, is_text_plain, is_value_plain, is_plain_as}
use Rattle.xml_tokens.specs.declared.written.Written.{Written}
use Rattle.xml_tokens.specs.declared.written.Written.TheVariants.{Text, Value}
use Rattle.xml_tokens.proofs.Splits.{after_stops, length-joined}

pub text_plain_is : (b : ℕ) → is_text_plain b ≡ true → text_byte b ≡ b ∷ []
unfolding text_byte
text_plain_is b h =
    let p = or_parts (eqb b 38) _ (not-true _ h) in
    let q = or_parts (eqb b 60) _ p.1 in
    let r = or_parts (eqb b 62) _ q.1 in
    rw (p.0, q.0, r.0, r.1) refl

pub value_plain_is : (b : ℕ) → is_value_plain b ≡ true → value_byte b ≡ b ∷ []
unfolding value_byte
value_plain_is b h =
    let s = and_parts (is_text_plain b) _ h in
    let p = or_parts (eqb b 39) _ (not-true _ s.1) in
    let q = or_parts (eqb b 9) _ p.1 in
    rw (p.0, q.0, q.1) (text_plain_is b s.0)

pub plain_is : (form : Written) (b : ℕ) → is_plain_as form b ≡ true → written_byte form b ≡ b ∷ []
plain_is Text b h = text_plain_is b h
plain_is Value b h = value_plain_is b h

-- what a text escapes, a value does, and in the same way
pub text_needs : (b : ℕ) → is_text_plain b ≡ false → is_value_plain b ≡ false
text_needs b h = rw h refl

pub text_escaped_is : (b : ℕ) → is_text_plain b ≡ false → value_byte b ≡ text_byte b
unfolding value_byte
text_escaped_is b h =
    let n39 : eqb b 39 ≡ false = grind (arith, nat_tests) in
    let n9 : eqb b 9 ≡ false = grind (arith, nat_tests) in
    let n10 : eqb b 10 ≡ false = grind (arith, nat_tests) in
    rw (n39, n9, n10) refl

pub needs : (form : Written) (b : ℕ) → is_plain_as form b ≡ false → is_value_plain b ≡ false
needs Text b h = text_needs b h
needs Value b h = h

pub escaped_is : (form : Written) (b : ℕ) → is_plain_as form b ≡ false → value_byte b ≡ written_byte form b
escaped_is Text b h = text_escaped_is b h
escaped_is Value b h = refl

module _ (f : ℕ → List ℕ) (p : ℕ → Bool) (plain_is : (b : ℕ) → p b ≡ true → f b ≡ b ∷ []) where
  run : (bs : List ℕ) → flat_map f bs ≡ front p bs ++ flat_map f (following p bs)
  run [] = refl
  run (b ∷ bs) =
      ⊎_elim
      (λ (plain : p b ≡ true). rw plain (ap (λ l. l ++ flat_map f bs) (plain_is b plain) ∙ ap (λ l. b ∷ l) (run bs)))
      (λ (other : p b ≡ false). rw other refl)
      (cases_Bool (p b))

  pub whole : (plain special rest : List ℕ) → plain ≡ front p rest → special ≡ following p rest → flat_map f rest ≡ plain ++ flat_map f special
  whole plain special rest is_front is_rest = rw (is_front, is_rest) (run rest)

  pub room_for_plain : (plain special rest : List ℕ) (spare : ℕ) → plain ≡ front p rest → special ≡ following p rest → length (flat_map f rest) ≤ spare → length plain ≤ spare
  room_for_plain plain special rest spare is_front is_rest room =
      let e = ap length (whole plain special rest is_front is_rest) in omega (arith, e, length-append plain (flat_map f special))

  pub needs_escape : (special rest left : List ℕ) (b : ℕ) → special ≡ following p rest → special ≡ b ∷ left → p b ≡ false
  needs_escape special rest left b is_rest begins = after_stops p rest b left (sym is_rest ∙ begins)

  parts : (plain special rest left escaped : List ℕ) (b : ℕ) → plain ≡ front p rest → special ≡ following p rest → special ≡ b ∷ left → escaped ≡ f b
      → flat_map f rest ≡ plain ++ (escaped ++ flat_map f left)
  parts plain special rest left escaped b is_front is_rest begins is_escaped =
      whole plain special rest is_front is_rest ∙ ap (λ l. plain ++ flat_map f l) begins ∙ ap (λ l. plain ++ (l ++ flat_map f left)) (sym is_escaped)

  pub room_for_escape : (plain special rest left escaped : List ℕ) (b spare more : ℕ) → plain ≡ front p rest → special ≡ following p rest → special ≡ b ∷ left → escaped ≡ f b
      → length (flat_map f rest) ≤ spare → spare ≤ more + length plain → length escaped ≤ more
  room_for_escape plain special rest left escaped b spare more is_front is_rest begins is_escaped room kept =
      let e = ap length (parts plain special rest left escaped b is_front is_rest begins is_escaped) in
      omega (arith, e, length-append plain (escaped ++ flat_map f left), length-append escaped (flat_map f left))

  pub items_escaped : (old mid new plain special rest left escaped : List ℕ) (b : ℕ) → plain ≡ front p rest → special ≡ following p rest → special ≡ b ∷ left → escaped ≡ f b
      → mid ≡ old ++ plain → new ≡ mid ++ escaped → new ++ flat_map f left ≡ old ++ flat_map f rest
  items_escaped old mid new plain special rest left escaped b is_front is_rest begins is_escaped first second =
      rw (second, first, parts plain special rest left escaped b is_front is_rest begins is_escaped) (simp append_assoc)

  pub spare_escaped : (plain special rest left escaped : List ℕ) (b spare more last : ℕ) → plain ≡ front p rest → special ≡ following p rest → special ≡ b ∷ left → escaped ≡ f b
      → spare ≤ more + length plain → more ≤ last + length escaped → spare + length (flat_map f left) ≤ last + length (flat_map f rest)
  spare_escaped plain special rest left escaped b spare more last is_front is_rest begins is_escaped first second =
      let e = ap length (parts plain special rest left escaped b is_front is_rest begins is_escaped) in
      omega (arith, e, length-append plain (escaped ++ flat_map f left), length-append escaped (flat_map f left))

  pub shorter_escaped : (special rest left : List ℕ) (b : ℕ) → special ≡ following p rest → special ≡ b ∷ left → length left < length rest
  shorter_escaped special rest left b is_rest begins =
      let both = length-joined p rest in
      let first = ap length begins in
      let second = ap length is_rest in
      omega arith

  pub items_plain : (old new plain special rest : List ℕ) → plain ≡ front p rest → special ≡ following p rest → new ≡ old ++ plain → new ++ flat_map f special ≡ old ++ flat_map f rest
  items_plain old new plain special rest is_front is_rest pushed =
      rw (pushed, whole plain special rest is_front is_rest) (append_assoc old plain (flat_map f special))

  pub spare_plain : (plain special rest : List ℕ) (spare more : ℕ) → plain ≡ front p rest → special ≡ following p rest → spare ≤ more + length plain → spare + length (flat_map f special) ≤ more + length (flat_map f rest)
  spare_plain plain special rest spare more is_front is_rest kept =
      let e = ap length (whole plain special rest is_front is_rest) in omega (arith, e, length-append plain (flat_map f special))

  pub len_escaped : (plain special rest left escaped : List ℕ) (b len mid last most : ℕ) → plain ≡ front p rest → special ≡ following p rest → special ≡ b ∷ left → escaped ≡ f b
      → mid ≡ min (len + length plain) most → last ≡ min (mid + length escaped) most → min (last + length (flat_map f left)) most ≡ min (len + length (flat_map f rest)) most
  len_escaped plain special rest left escaped b len mid last most is_front is_rest begins is_escaped first second =
      let e = ap length (parts plain special rest left escaped b is_front is_rest begins is_escaped) in
      omega (arith, e, length-append plain (escaped ++ flat_map f left), length-append escaped (flat_map f left))

  pub len_plain : (plain special rest : List ℕ) (len last most : ℕ) → plain ≡ front p rest → special ≡ following p rest → last ≡ min (len + length plain) most
      → min (last + length (flat_map f special)) most ≡ min (len + length (flat_map f rest)) most
  len_plain plain special rest len last most is_front is_rest counted =
      let e = ap length (whole plain special rest is_front is_rest) in omega (arith, e, length-append plain (flat_map f special))
