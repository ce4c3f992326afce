-- The test on bytes is that of XML's characters.
use Rattle.std.proofs.Common.{◌≡◌, ℕ, ◌+◌, ◌/◌, ◌%◌, ◌<◌, ◌≤◌, ◌⊎◌, inl, inr, ⊎_elim, Bool, true, false, not, ◌&&◌, List, [], ◌∷◌, ◌++◌, refl, sym, ap, ◌∙◌, arith}
use Rattle.std.proofs.lemmas.Bool.{lt-ltb, le-ltb, cases_lt, and_parts, eqb-true, false_from_ne_true, agree_below_at, or_cases}
use Rattle.std.proofs.lemmas.Bool.Decides.{nat_tests}
use Rattle.std.proofs.lemmas.Str.{chars_from_encodes}
use Rattle.std.specs.List.{list_all}
use Rattle.std.specs.Str.{IsUtf8, chars}
use lib.Utf8.{scalar, scalars, encode, encodes, scalar_cases}
use Rattle.xml_tokens.specs.Characters.{is_control, is_character, ends_forbidden, are_characters, are_characters_after}

-- no byte from 192 on ends a forbidden character, nor does one behind a byte other than BF, or behind one other than EF before it
quiet_first : (a b x : ℕ) → 192 ≤ x → ends_forbidden a b x ≡ false
quiet_first a b x h = grind (arith, nat_tests)

quiet_last : (a b x : ℕ) → 128 ≤ x → 192 ≤ b → ends_forbidden a b x ≡ false
quiet_last a b x h k = grind (arith, nat_tests)

quiet_before : (a b x : ℕ) → 128 ≤ x → (a < 239) ⊎ (239 < a) → ends_forbidden a b x ≡ false
quiet_before a b x h k = ⊎_elim (λ less. before a b x h less) (λ more. following a b x h more) k
  where
    before : (a b x : ℕ) → 128 ≤ x → a < 239 → ends_forbidden a b x ≡ false
    before a b x h k = grind (arith, nat_tests)

    following : (a b x : ℕ) → 128 ≤ x → 239 < a → ends_forbidden a b x ≡ false
    following a b x h k = grind (arith, nat_tests)

passes : (a b x : ℕ) (rest : List ℕ) → ends_forbidden a b x ≡ false → are_characters_after a b (x ∷ rest) ≡ are_characters_after b x rest
passes a b x rest h = rw h refl

ascii_end : (a b c : ℕ) → c < 128 → ends_forbidden a b c ≡ is_control c
ascii_end a b c h = grind (arith, nat_tests)

last_end : (x y z : ℕ) → 128 ≤ z → (x ≡ 239) → (y ≡ 191) → (190 ≤ z) → z ≤ 191 → ends_forbidden x y z ≡ true
last_end x y z h p q r s = grind (arith, nat_tests)

wide : (c : ℕ) → 128 ≤ c → c < 55296 → is_character c ≡ true
wide c h k = grind (arith, nat_tests)

high : (c : ℕ) → 57344 ≤ c → c < 65534 → is_character c ≡ true
high c h k = grind (arith, nat_tests)

highest : (c : ℕ) → 65536 ≤ c → c < 1114112 → is_character c ≡ true
highest c h k = grind (arith, nat_tests)

none : (c : ℕ) → 65534 ≤ c → c < 65536 → is_character c ≡ false
none c h k = grind (arith, nat_tests)

module _ (rest : List ℕ) (r : Bool) (same : (u v : ℕ) → are_characters_after u v rest ≡ r) where
  one : (c a b : ℕ) → c < 128 → are_characters_after a b (c ∷ rest) ≡ (is_character c && r)
  one c a b h =
      let test : not (is_control c) ≡ is_character c = agree_below_at (λ n. not (is_control n)) is_character 128 c refl h in
      ap (λ e. not e && are_characters_after b c rest) (ascii_end a b c h) ∙ ap (λ t. t && are_characters_after b c rest) test ∙ ap (λ t. is_character c && t) (same b c)

  two : (c a b : ℕ) → 128 ≤ c → c < 2048 → are_characters_after a b ((192 + c / 64) ∷ (128 + c % 64) ∷ rest) ≡ (is_character c && r)
  two c a b low high =
      let x = 192 + c / 64 in
      let y = 128 + c % 64 in
      passes a b x (y ∷ rest) (quiet_first a b x (omega arith)) ∙ passes b x y rest (quiet_last b x y (omega arith) (omega arith)) ∙ same x y
      ∙ ap (λ t. t && r) (sym (wide c low (omega arith)))

  three : (c a b : ℕ) → 2048 ≤ c → c < 65536 → (c < 55296) ⊎ (57344 ≤ c) → are_characters_after a b ((224 + c / 4096) ∷ (128 + c / 64 % 64) ∷ (128 + c % 64) ∷ rest) ≡ (is_character c && r)
  three c a b low top apart =
      let x = 224 + c / 4096 in
      let y = 128 + c / 64 % 64 in
      let z = 128 + c % 64 in
      passes a b x (y ∷ z ∷ rest) (quiet_first a b x (omega arith)) ∙ passes b x y (z ∷ rest) (quiet_last b x y (omega arith) (omega arith))
      ∙ ⊎_elim
      (λ (less : c < 65534). passes x y z rest (third c less) ∙ same y z ∙ ap (λ t. t && r) (sym (⊎_elim (λ below. wide c (omega arith) below) (λ above. high c above less) apart)))
      (λ (more : 65534 ≤ c).
      let bad : ends_forbidden x y z ≡ true = last_end x y z (omega arith) (omega arith) (omega arith) (omega arith) (omega arith) in
      ap (λ e. not e && are_characters_after y z rest) bad ∙ ap (λ t. t && r) (sym (none c more top)))
      (cases_lt c 65534)
    where
      third : (c : ℕ) → c < 65534 → ends_forbidden (224 + c / 4096) (128 + c / 64 % 64) (128 + c % 64) ≡ false
      third c less =
          false_from_ne_true _ (λ h. ⊎_elim
          (λ control. control_low (128 + c % 64) (omega arith) control)
          (λ both.
          let p = and_parts _ _ both in
          let q = and_parts _ _ p.0 in
          let first = eqb-true (224 + c / 4096) 239 q.0 in
          let second = eqb-true (128 + c / 64 % 64) 191 q.1 in
          ⊎_elim (λ e. let last = eqb-true (128 + c % 64) 190 e in omega arith) (λ e. let last = eqb-true (128 + c % 64) 191 e in omega arith) (or_cases _ _ p.1))
          (or_cases (is_control (128 + c % 64)) _ h))
        where
          control_low : (z : ℕ) → 128 ≤ z → is_control z ≡ true → ⊥
          control_low z h k = grind (arith, nat_tests)

  four : (c a b : ℕ) → 65536 ≤ c → c < 1114112 → are_characters_after a b ((240 + c / 262144) ∷ (128 + c / 4096 % 64) ∷ (128 + c / 64 % 64) ∷ (128 + c % 64) ∷ rest) ≡ (is_character c && r)
  four c a b low top =
      let x = 240 + c / 262144 in
      let y = 128 + c / 4096 % 64 in
      let z = 128 + c / 64 % 64 in
      let w = 128 + c % 64 in
      passes a b x (y ∷ z ∷ w ∷ rest) (quiet_first a b x (omega arith)) ∙ passes b x y (z ∷ w ∷ rest) (quiet_last b x y (omega arith) (omega arith))
      ∙ passes x y z (w ∷ rest) (quiet_before x y z (omega arith) (inr (omega arith))) ∙ passes y z w rest (quiet_before y z w (omega arith) (inl (omega arith))) ∙ same z w
      ∙ ap (λ t. t && r) (sym (highest c low top))

  character : (c a b : ℕ) → scalar c ≡ true → are_characters_after a b (encode c ++ rest) ≡ (is_character c && r)
  unfolding encode
  character c a b h =
      let apart = scalar_cases c h in
      let top : c < 1114112 = ⊎_elim (λ below. omega arith) (λ above. above.1) apart in
      let clear : (c < 55296) ⊎ (57344 ≤ c) = ⊎_elim (λ below. inl below) (λ above. inr above.0) apart in
      ⊎_elim (λ small. rw (lt-ltb c 128 small) (one c a b small))
      (λ m. ⊎_elim (λ small. rw (le-ltb c 128 m, lt-ltb c 2048 small) (two c a b m small))
      (λ n. ⊎_elim (λ small. rw (le-ltb c 128 m, le-ltb c 2048 n, lt-ltb c 65536 small) (three c a b n small clear))
      (λ o. rw (le-ltb c 128 m, le-ltb c 2048 n, le-ltb c 65536 o) (four c a b o top))
      (cases_lt c 65536)) (cases_lt c 2048)) (cases_lt c 128)

characters : (cs : List ℕ) (a b : ℕ) → scalars cs ≡ true → are_characters_after a b (encodes cs) ≡ list_all is_character cs
characters [] a b h = refl
characters (c ∷ cs) a b h =
    let p = and_parts (scalar c) (scalars cs) h in
    character (encodes cs) (list_all is_character cs) (λ u v. characters cs u v p.1) c a b p.0

pub characters_are_those : (bs : List ℕ) → IsUtf8 bs → are_characters bs ≡ list_all is_character (chars bs)
unfolding are_characters
characters_are_those bs h =
    ap (are_characters_after 0 0) (sym h.1.1) ∙ characters h.0 0 0 h.1.0 ∙ ap (list_all is_character) (chars_from_encodes h.0 bs h h.1.1)
