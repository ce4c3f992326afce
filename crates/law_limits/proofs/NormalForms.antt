-- The normal form C of characters has neither U+FFFE nor U+FFFF where they have neither.
use Rattle.std.proofs.Common.{◌≡◌, ℕ, ◌+◌, ◌-◌, ◌/◌, ◌%◌, ◌<◌, Bool, true, false, not, ◌||◌, ◌==◌, List, [], ◌∷◌, cond, flat_map, refl, sym, ap, ◌∙◌, inl, inr, arith, eqb-true}
use Rattle.std.proofs.lemmas.Bool.{and_from, and_parts, cases_Bool, false≢true}
use Rattle.std.proofs.lemmas.Bool.Decides.{nat_tests}
use Rattle.std.proofs.lemmas.List.Folds.{list_all-append}
use Rattle.std.specs.List.{list_all}
use Rattle.ucd_normal.proofs.Computing.{ucd_normal}
use Rattle.ucd_normal.proofs.DecompositionLemmas.{canonical_decomposition_stepped}
use Rattle.ucd_normal.specs.Decomposition.{canonical_decomposition, or_itself}
use Rattle.ucd_normal.specs.declared.forms.Form.TheVariants.{Nfd}
use Rattle.ucd_table.proofs.Computing.{tables}
use Rattle.ucd_table.proofs.RangedFacts.{Stepped-at_values, values_ok}
use Rattle.unicode_normalization.proofs.FormsLemmas.{nfd-nfc}
use Rattle.unicode_normalization.proofs.OrderLemmas.{list_all-canonical_order}
use Rattle.unicode_normalization.specs.Decompose.{decompose}
use Rattle.unicode_normalization.specs.Forms.{decomposed, nfc, nfd, normalize}
use Rattle.unicode_normalization.specs.Hangul.{decompose_hangul, is_syllable}
use Rattle.unicode_normalization.specs.Order.{canonical_order, is_reorderable, sink}

abbrev pub is_sound : ℕ → Bool
is_sound c = not (c == 65534 || c == 65535)

small_sound : (c : ℕ) → c < 65534 → is_sound c ≡ true
small_sound c small = grind (arith, nat_tests)

-- ---- what a character decomposes to

table_sound : (c : ℕ) → list_all is_sound (canonical_decomposition c) ≡ true
unfolding tables values_ok canonical_decomposition_stepped
table_sound c = Stepped-at_values canonical_decomposition canonical_decomposition_stepped (list_all is_sound) refl c

itself_sound : (c : ℕ) (xs : List ℕ) → is_sound c ≡ true → list_all is_sound xs ≡ true → list_all is_sound (or_itself c xs) ≡ true
itself_sound c [] h k = and_from _ _ h refl
itself_sound c (x ∷ xs) h k = k

either_sound : (b : Bool) (xs ys : List ℕ) → list_all is_sound xs ≡ true → list_all is_sound ys ≡ true → list_all is_sound (cond b xs ys) ≡ true
either_sound true xs ys h k = h
either_sound false xs ys h k = k

hangul_sound : (s : ℕ) → is_syllable s ≡ true → list_all is_sound (decompose_hangul s) ≡ true
unfolding decompose_hangul
hangul_sound s h =
    let within : s < 55204 = grind (arith, nat_tests) in
    let l : is_sound (0x1100 + (s - 0xAC00) / 588) ≡ true = small_sound (0x1100 + (s - 0xAC00) / 588) (omega (arith, within)) in
    let v : is_sound (0x1161 + (s - 0xAC00) % 588 / 28) ≡ true = small_sound (0x1161 + (s - 0xAC00) % 588 / 28) (omega (arith, within)) in
    let t : is_sound (0x11A7 + (s - 0xAC00) % 28) ≡ true = small_sound (0x11A7 + (s - 0xAC00) % 28) (omega (arith, within)) in
    either_sound ((s - 0xAC00) % 28 == 0) ((0x1100 + (s - 0xAC00) / 588) ∷ (0x1161 + (s - 0xAC00) % 588 / 28) ∷ [])
    ((0x1100 + (s - 0xAC00) / 588) ∷ (0x1161 + (s - 0xAC00) % 588 / 28) ∷ (0x11A7 + (s - 0xAC00) % 28) ∷ []) (and_from _ _ l (and_from _ _ v refl)) (and_from _ _ l (and_from _ _ v (and_from _ _ t refl)))

decompose_sound : (c : ℕ) → is_sound c ≡ true → list_all is_sound (decompose Nfd c) ≡ true
unfolding decompose
decompose_sound c h = elim (cases_Bool (is_syllable c)) [ inl e ↦ rw e (hangul_sound c e) | inr e ↦ rw e (itself_sound c (canonical_decomposition c) h (table_sound c)) ]

all_decomposed : (cs : List ℕ) → list_all is_sound cs ≡ true → list_all is_sound (flat_map (decompose Nfd) cs) ≡ true
all_decomposed [] h = refl
all_decomposed (c ∷ cs) h =
    let parts = and_parts (is_sound c) (list_all is_sound cs) h in
    list_all-append is_sound (decompose Nfd c) (flat_map (decompose Nfd) cs) ∙ and_from _ _ (decompose_sound c parts.0) (all_decomposed cs parts.1)

nfd_sound : (cs : List ℕ) → list_all is_sound cs ≡ true → list_all is_sound (nfd cs) ≡ true
unfolding normalize decomposed
nfd_sound cs h = list_all-canonical_order is_sound (flat_map (decompose Nfd) cs) (all_decomposed cs h)

-- ---- and backwards

record Both (p : ℕ → Bool) (c : ℕ) (cs : List ℕ) : Type 0 where
  first : p c ≡ true
  rest : list_all p cs ≡ true

sink_back : (p : ℕ → Bool) (c : ℕ) (ds : List ℕ) → list_all p (sink c ds) ≡ true → Both p c ds
unfolding sink
sink_back p c [] h = let parts = and_parts (p c) true h in record { first = parts.0; rest = refl }
sink_back p c (d ∷ ds) h =
    elim (cases_Bool (is_reorderable c d)) [
      | inl e ↦
          let parts = and_parts (p d) (list_all p (sink c ds)) (rw e at h) in
          let below = sink_back p c ds parts.1 in
          record { first = below.first; rest = and_from _ _ parts.0 below.rest }
      | inr e ↦ let parts = and_parts (p c) (list_all p (d ∷ ds)) (rw e at h) in record { first = parts.0; rest = parts.1 }
    ]

order_back : (p : ℕ → Bool) (cs : List ℕ) → list_all p (canonical_order cs) ≡ true → list_all p cs ≡ true
unfolding canonical_order
order_back p [] h = refl
order_back p (c ∷ cs) h = let both = sink_back p c (canonical_order cs) h in and_from _ _ both.first (order_back p cs both.rest)

first_stays : list_all is_sound (decompose Nfd 65534) ≡ false
unfolding decompose ucd_normal
first_stays = refl

second_stays : list_all is_sound (decompose Nfd 65535) ≡ false
unfolding decompose ucd_normal
second_stays = refl

decompose_back : (c : ℕ) → list_all is_sound (decompose Nfd c) ≡ true → is_sound c ≡ true
decompose_back c h =
    elim (cases_Bool (c == 65534)) [
      | inl e ↦
          let is : c ≡ 65534 = eqb-true c 65534 e in
          absurd (false≢true (sym first_stays ∙ ap (λ n. list_all is_sound (decompose Nfd n)) (sym is) ∙ h))
      | inr e ↦
          elim (cases_Bool (c == 65535)) [
            | inl f ↦
                let is : c ≡ 65535 = eqb-true c 65535 f in
                absurd (false≢true (sym second_stays ∙ ap (λ n. list_all is_sound (decompose Nfd n)) (sym is) ∙ h))
            | inr f ↦ rw (e, f) refl
          ]
    ]

flat_back : (cs : List ℕ) → list_all is_sound (flat_map (decompose Nfd) cs) ≡ true → list_all is_sound cs ≡ true
flat_back [] h = refl
flat_back (c ∷ cs) h =
    let parts = and_parts (list_all is_sound (decompose Nfd c)) (list_all is_sound (flat_map (decompose Nfd) cs)) (sym (list_all-append is_sound (decompose Nfd c) (flat_map (decompose Nfd) cs)) ∙ h) in
    and_from _ _ (decompose_back c parts.0) (flat_back cs parts.1)

nfd_back : (cs : List ℕ) → list_all is_sound (nfd cs) ≡ true → list_all is_sound cs ≡ true
unfolding normalize decomposed
nfd_back cs h = flat_back cs (order_back is_sound (flat_map (decompose Nfd) cs) h)

pub nfc_sound : (cs : List ℕ) → list_all is_sound cs ≡ true → list_all is_sound (nfc cs) ≡ true
nfc_sound cs h = nfd_back (nfc cs) (ap (list_all is_sound) (nfd-nfc cs) ∙ nfd_sound cs h)
