-- The texts that are read are the base64 of bytes.
use Rattle.std.proofs.Common.{◌≡◌, ℕ, zero, suc, ◌+◌, ◌-◌, ◌*◌, ◌/◌, ◌%◌, ◌==◌, ◌<◌, ◌≤◌, ◌⊎◌, Bool, true, false, cond, ◌&&◌, List, [], ◌∷◌, ◌++◌, slice_index, Option, Some, None, refl, sym, ap, ◌∙◌, arith, inl, inr, eq-eqb, ne_eqb}
use Rattle.std.proofs.lemmas.Bool.{and_parts, eqb-true, leb-true, cases_lt}
use Rattle.std.specs.Option.{option_map}
use Rattle.base64.specs.Engines.{standard}
use Rattle.base64.specs.GeneralPurpose.{IsBytes, encode_of}
use Rattle.base64.specs.Rfc4648.{encode_symbols}
use Rattle.base64.proofs.EngineFacts.{encode_of-append, encode_of-nil}
use Rattle.auth_primitives.proofs.ByteSteps.{IsBytes-cons, IsBytes-nil}
use Rattle.auth_primitives.specs.Canonical.{IsBase64}
use Rattle.auth_primitives.specs.Reading.{base64_after, base64_goes_on, base64_may_end, is_within, sextet}
use Rattle.auth_primitives.specs.declared.text.Base64Text.{Base64Text}
use Rattle.auth_primitives.specs.declared.text.Base64Text.TheVariants.{Whole, One, Two, Three, Padding, Padded}
use Rattle.base_lemmas.proofs.Conditions.{chosen, guard_tells}
use Rattle.base_lemmas.proofs.Options.{option_cases}

-- ---- tests

within : (low high b : ℕ) → is_within low high b ≡ true → (low ≤ b) × (b ≤ high)
within low high b h = let parts = and_parts _ _ h in (leb-true low b parts.0, leb-true b high parts.1)

map_some : {X A : Type 0} (f : X → A) (o : Option X) (u : A) → option_map f o ≡ Some u → (v : X) × (o ≡ Some v) × (u ≡ f v)
map_some f None u h = cc h
map_some f (Some v) u h = (v, refl, cc h)

-- ---- symbols

abbrev pub symbol : ℕ → ℕ
symbol v = slice_index standard.encode_table v

abbrev pub all_below : ℕ → (ℕ → Bool) → Bool
all_below zero p = true
all_below (suc n) p = all_below n p && p n

pub below : (n : ℕ) (p : ℕ → Bool) → all_below n p ≡ true → (k : ℕ) → k < n → p k ≡ true
below zero p h k lt = absurd (omega arith)
below (suc n) p h k lt =
    let parts = and_parts (all_below n p) (p n) h in
    elim (cases_lt k n) [
      | inl l ↦ below n p parts.0 k l
      | inr e ↦ (let same : k ≡ n = omega arith in rw same parts.1)
    ]

abbrev gives : Option ℕ → ℕ → Bool
gives None v = false
gives (Some x) v = x == v

gives_some : (o : Option ℕ) (v : ℕ) → gives o v ≡ true → o ≡ Some v
gives_some None v h = cc h
gives_some (Some x) v h = ap (λ (n : ℕ). Some n) (eqb-true x v h)

pub sextet-symbol : (v : ℕ) → v < 64 → sextet (symbol v) ≡ Some v
sextet-symbol v lt = gives_some (sextet (symbol v)) v (below 64 (λ v. gives (sextet (symbol v)) v) refl v lt)

some_is : (x v : ℕ) → Some x ≡ Some v → x ≡ v
some_is x v h = cc h

-- a run of symbols by their places in the table
placed : (n from at : ℕ) → all_below n (λ i. symbol (at + i) == from + i) ≡ true → (b v : ℕ) → from ≤ b → b < from + n → v ≡ at + (b - from) → symbol v ≡ b
placed n from at h b v low high is_v =
    let found = eqb-true (symbol (at + (b - from))) (from + (b - from)) (below n (λ i. symbol (at + i) == from + i) h (b - from) (omega arith)) in
    let back : from + (b - from) ≡ b = omega arith in
    rw is_v (found ∙ back)

pub symbol-sextet : (b v : ℕ) → sextet b ≡ Some v → (v < 64) × (symbol v ≡ b)
symbol-sextet b v h =
    elim (chosen (is_within 65 90 b) _ _ (Some v) h) [
      | inl p ↦
          let w = within 65 90 b p.0 in
          let e = some_is (b - 65) v p.1 in
          (omega arith, placed 26 65 0 refl b v w.0 (omega arith) (omega arith))
      | inr q ↦ elim (chosen (is_within 97 122 b) _ _ (Some v) q.1) [
        | inl p ↦
            let w = within 97 122 b p.0 in
            let e = some_is (b - 71) v p.1 in
            (omega arith, placed 26 97 26 refl b v w.0 (omega arith) (omega arith))
        | inr q ↦ elim (chosen (is_within 48 57 b) _ _ (Some v) q.1) [
          | inl p ↦
              let w = within 48 57 b p.0 in
              let e = some_is (b + 4) v p.1 in
              (omega arith, placed 10 48 52 refl b v w.0 (omega arith) (omega arith))
          | inr q ↦ elim (chosen (b == 43) _ _ (Some v) q.1) [
            | inl p ↦
                let e = some_is 62 v p.1 in
                let f = eqb-true b 43 p.0 in
                (omega arith, rw (← e, f) refl)
            | inr q ↦ elim (chosen (b == 47) _ _ (Some v) q.1) [
              | inl p ↦
                  let e = some_is 63 v p.1 in
                  let f = eqb-true b 47 p.0 in
                  (omega arith, rw (← e, f) refl)
              | inr q ↦ cc q.1
            ]
          ]
        ]
      ]
    ]

symbol-no_padding : (v : ℕ) → v < 64 → (symbol v == 61) ≡ false
symbol-no_padding v lt = ne_eqb (symbol v) 61 (λ e. let f = rw e at (sextet-symbol v lt) in cc f)

-- ---- states

and_false : (z : Bool) → (z && false) ≡ false
and_false true = refl
and_false false = refl

whole_on : (v : ℕ) → v < 64 → base64_goes_on Whole (symbol v) ≡ Some One
whole_on v lt = rw (sextet-symbol v lt) refl

one_on : (v : ℕ) → v < 64 → base64_goes_on One (symbol v) ≡ Some (Two (v % 16 == 0))
one_on v lt = rw (sextet-symbol v lt) refl

two_on : (z : Bool) (v : ℕ) → v < 64 → base64_goes_on (Two z) (symbol v) ≡ Some (Three (v % 4 == 0))
two_on z v lt = rw (symbol-no_padding v lt, and_false z, sextet-symbol v lt) refl

three_on : (z : Bool) (v : ℕ) → v < 64 → base64_goes_on (Three z) (symbol v) ≡ Some Whole
three_on z v lt = rw (symbol-no_padding v lt, and_false z, sextet-symbol v lt) refl

step : (s t : Base64Text) (b : ℕ) (bs : List ℕ) → base64_goes_on s b ≡ Some t → base64_after s (b ∷ bs) ≡ base64_after t bs
step s t b bs h = rw h refl

after_first : (s t : Base64Text) (b : ℕ) (bs : List ℕ) → base64_after s (b ∷ bs) ≡ Some t → (u : Base64Text) × (base64_goes_on s b ≡ Some u) × (base64_after u bs ≡ Some t)
after_first s t b bs h =
    elim (option_cases (base64_goes_on s b)) [
      | inl none ↦ cc (rw none at h)
      | inr some ↦ (some.0, some.1, rw some.1 at h)
    ]

-- four symbols of a group, and what follows
group_run : (v0 v1 v2 v3 : ℕ) (rest : List ℕ) → v0 < 64 → v1 < 64 → v2 < 64 → v3 < 64
    → base64_after Whole (symbol v0 ∷ symbol v1 ∷ symbol v2 ∷ symbol v3 ∷ rest) ≡ base64_after Whole rest
group_run v0 v1 v2 v3 rest l0 l1 l2 l3 =
    step Whole One (symbol v0) (symbol v1 ∷ symbol v2 ∷ symbol v3 ∷ rest) (whole_on v0 l0)
    ∙ step One (Two (v1 % 16 == 0)) (symbol v1) (symbol v2 ∷ symbol v3 ∷ rest) (one_on v1 l1)
    ∙ step (Two (v1 % 16 == 0)) (Three (v2 % 4 == 0)) (symbol v2) (symbol v3 ∷ rest) (two_on (v1 % 16 == 0) v2 l2)
    ∙ step (Three (v2 % 4 == 0)) Whole (symbol v3) rest (three_on (v2 % 4 == 0) v3 l3)

two_pads : (z : Bool) → z ≡ true → base64_after (Two z) (61 ∷ 61 ∷ []) ≡ Some Padded
two_pads true h = refl
two_pads false h = cc h

three_pads : (z : Bool) → z ≡ true → base64_after (Three z) (61 ∷ []) ≡ Some Padded
three_pads true h = refl
three_pads false h = cc h

two_run : (v0 v1 : ℕ) → v0 < 64 → v1 < 64 → v1 % 16 ≡ 0 → base64_after Whole (symbol v0 ∷ symbol v1 ∷ 61 ∷ 61 ∷ []) ≡ Some Padded
two_run v0 v1 l0 l1 zero_bits =
    step Whole One (symbol v0) (symbol v1 ∷ 61 ∷ 61 ∷ []) (whole_on v0 l0)
    ∙ step One (Two (v1 % 16 == 0)) (symbol v1) (61 ∷ 61 ∷ []) (one_on v1 l1)
    ∙ two_pads (v1 % 16 == 0) (eq-eqb (v1 % 16) 0 zero_bits)

three_run : (v0 v1 v2 : ℕ) → v0 < 64 → v1 < 64 → v2 < 64 → v2 % 4 ≡ 0 → base64_after Whole (symbol v0 ∷ symbol v1 ∷ symbol v2 ∷ 61 ∷ []) ≡ Some Padded
three_run v0 v1 v2 l0 l1 l2 zero_bits =
    step Whole One (symbol v0) (symbol v1 ∷ symbol v2 ∷ 61 ∷ []) (whole_on v0 l0)
    ∙ step One (Two (v1 % 16 == 0)) (symbol v1) (symbol v2 ∷ 61 ∷ []) (one_on v1 l1)
    ∙ step (Two (v1 % 16 == 0)) (Three (v2 % 4 == 0)) (symbol v2) (61 ∷ []) (two_on (v1 % 16 == 0) v2 l2)
    ∙ three_pads (v2 % 4 == 0) (eq-eqb (v2 % 4) 0 zero_bits)

-- ---- texts of bytes

-- a text that may end where it ends
abbrev pub IsWhole : List ℕ → Type 0
IsWhole text = (t : Base64Text) × (base64_after Whole text ≡ Some t) × (base64_may_end t ≡ true)

group_text : (a b c : ℕ) → encode_of standard (a ∷ b ∷ c ∷ [])
    ≡ symbol (a / 4) ∷ symbol (a % 4 * 16 + b / 16) ∷ symbol (b % 16 * 4 + c / 64) ∷ symbol (c % 64) ∷ []
unfolding encode_symbols
group_text a b c = refl

pub two_text : (a b : ℕ) → encode_of standard (a ∷ b ∷ []) ≡ symbol (a / 4) ∷ symbol (a % 4 * 16 + b / 16) ∷ symbol (b % 16 * 4) ∷ 61 ∷ []
unfolding encode_symbols
two_text a b = refl

pub one_text : (a : ℕ) → encode_of standard (a ∷ []) ≡ symbol (a / 4) ∷ symbol (a % 4 * 16) ∷ 61 ∷ 61 ∷ []
unfolding encode_symbols
one_text a = refl

pub more_text : (a b c : ℕ) (bytes : List ℕ) → encode_of standard (a ∷ b ∷ c ∷ bytes)
    ≡ symbol (a / 4) ∷ symbol (a % 4 * 16 + b / 16) ∷ symbol (b % 16 * 4 + c / 64) ∷ symbol (c % 64) ∷ encode_of standard bytes
more_text a b c bytes = encode_of-append standard (a ∷ b ∷ c ∷ []) bytes refl ∙ ap (λ (x : List ℕ). x ++ encode_of standard bytes) (group_text a b c)

-- the text of bytes is read
pub encoded_whole : (bytes : List ℕ) → IsBytes bytes → IsWhole (encode_of standard bytes)
encoded_whole [] fits = rw (encode_of-nil standard) (Whole, refl, refl)
encoded_whole (a ∷ []) fits =
    let la : a < 256 = fits 0 in
    rw (one_text a) (Padded, two_run (a / 4) (a % 4 * 16) (omega arith) (omega arith) (omega arith), refl)
encoded_whole (a ∷ b ∷ []) fits =
    let la : a < 256 = fits 0 in
    let lb : b < 256 = fits 1 in
    rw (two_text a b) (Padded, three_run (a / 4) (a % 4 * 16 + b / 16) (b % 16 * 4) (omega arith) (omega arith) (omega arith) (omega arith), refl)
encoded_whole (a ∷ b ∷ c ∷ bytes) fits =
    let la : a < 256 = fits 0 in
    let lb : b < 256 = fits 1 in
    let lc : c < 256 = fits 2 in
    let rest = encoded_whole bytes (λ i. fits (suc (suc (suc i)))) in (
      rest.0,
      ap (base64_after Whole) (more_text a b c bytes)
          ∙ group_run (a / 4) (a % 4 * 16 + b / 16) (b % 16 * 4 + c / 64) (c % 64) (encode_of standard bytes) (omega arith) (omega arith) (omega arith) (omega arith) ∙ rest.1,
      rest.2,
    )

-- ---- what is read is the text of bytes

some_first : (s t : Base64Text) (o : Option ℕ) (f : ℕ → Base64Text) (bs : List ℕ) (u : Base64Text) → option_map f o ≡ Some u → base64_after u bs ≡ Some t → (v : ℕ) × (o ≡ Some v) × (base64_after (f v) bs ≡ Some t)
some_first s t o f bs u e h =
    let found = map_some f o u e in
    (found.0, found.1, rw found.2 at h)

whole_first : (t : Base64Text) (b : ℕ) (bs : List ℕ) → base64_after Whole (b ∷ bs) ≡ Some t → (v : ℕ) × (sextet b ≡ Some v) × (base64_after One bs ≡ Some t)
whole_first t b bs h =
    let first = after_first Whole t b bs h in
    some_first Whole t (sextet b) (λ v. One) bs first.0 first.1 first.2

one_first : (t : Base64Text) (b : ℕ) (bs : List ℕ) → base64_after One (b ∷ bs) ≡ Some t → (v : ℕ) × (sextet b ≡ Some v) × (base64_after (Two (v % 16 == 0)) bs ≡ Some t)
one_first t b bs h =
    let first = after_first One t b bs h in
    some_first One t (sextet b) (λ v. Two (v % 16 == 0)) bs first.0 first.1 first.2

-- a `=` where it may stand, or a symbol
padded_or : (z : Bool) (t s : Base64Text) (b : ℕ) (bs : List ℕ) (f : ℕ → Base64Text) (u : Base64Text) → cond (z && b == 61) (Some s) (option_map f (sextet b)) ≡ Some u → base64_after u bs ≡ Some t
    → ((z ≡ true) × (b ≡ 61) × (base64_after s bs ≡ Some t)) ⊎ ((v : ℕ) × (sextet b ≡ Some v) × (base64_after (f v) bs ≡ Some t))
padded_or z t s b bs f u e h =
    elim (chosen (z && b == 61) (Some s) (option_map f (sextet b)) (Some u) e) [
      | inl p ↦
          let parts = and_parts z (b == 61) p.0 in
          let same : u ≡ s = cc p.1 in
          inl (parts.0, eqb-true b 61 parts.1, rw same at h)
      | inr q ↦ inr (some_first s t (sextet b) f bs u q.1 h)
    ]

two_first : (z : Bool) (t : Base64Text) (b : ℕ) (bs : List ℕ) → base64_after (Two z) (b ∷ bs) ≡ Some t
    → ((z ≡ true) × (b ≡ 61) × (base64_after Padding bs ≡ Some t)) ⊎ ((v : ℕ) × (sextet b ≡ Some v) × (base64_after (Three (v % 4 == 0)) bs ≡ Some t))
two_first z t b bs h =
    let first = after_first (Two z) t b bs h in
    padded_or z t Padding b bs (λ v. Three (v % 4 == 0)) first.0 first.1 first.2

three_first : (z : Bool) (t : Base64Text) (b : ℕ) (bs : List ℕ) → base64_after (Three z) (b ∷ bs) ≡ Some t
    → ((z ≡ true) × (b ≡ 61) × (base64_after Padded bs ≡ Some t)) ⊎ ((v : ℕ) × (sextet b ≡ Some v) × (base64_after Whole bs ≡ Some t))
three_first z t b bs h =
    let first = after_first (Three z) t b bs h in
    padded_or z t Padded b bs (λ v. Whole) first.0 first.1 first.2

padding_first : (t : Base64Text) (b : ℕ) (bs : List ℕ) → base64_after Padding (b ∷ bs) ≡ Some t → (b ≡ 61) × (base64_after Padded bs ≡ Some t)
padding_first t b bs h =
    let first = after_first Padding t b bs h in
    let so = guard_tells (b == 61) (Some Padded) first.0 first.1 in
    let same : first.0 ≡ Padded = cc so.1 in
    (eqb-true b 61 so.0, rw same at first.2)

padded_none : (t : Base64Text) (bs : List ℕ) → base64_after Padded bs ≡ Some t → bs ≡ []
padded_none t [] h = refl
padded_none t (b ∷ bs) h = cc h

unended : (s t : Base64Text) → base64_after s [] ≡ Some t → base64_may_end t ≡ true → base64_may_end s ≡ true
unended s t h e = let same : s ≡ t = cc h in rw same e

IsBytes-group : (x y z : ℕ) (bytes : List ℕ) → x < 256 → y < 256 → z < 256 → IsBytes bytes → IsBytes (x ∷ y ∷ z ∷ bytes)
IsBytes-group x y z bytes lx ly lz fits = IsBytes-cons x (y ∷ z ∷ bytes) lx (IsBytes-cons y (z ∷ bytes) ly (IsBytes-cons z bytes lz fits))

-- four symbols, and the text of bytes
whole_group : (a b c d va vb vc vd : ℕ) (text : List ℕ) → sextet a ≡ Some va → sextet b ≡ Some vb → sextet c ≡ Some vc → sextet d ≡ Some vd → IsBase64 text
    → IsBase64 (a ∷ b ∷ c ∷ d ∷ text)
whole_group a b c d va vb vc vd text ea eb ec ed rest =
    let sa = symbol-sextet a va ea in
    let sb = symbol-sextet b vb eb in
    let sc = symbol-sextet c vc ec in
    let sd = symbol-sextet d vd ed in
    let x : ℕ = va * 4 + vb / 16 in
    let y : ℕ = vb % 16 * 16 + vc / 4 in
    let z : ℕ = vc % 4 * 64 + vd in
    let e0 : x / 4 ≡ va = omega arith in
    let e1 : x % 4 * 16 + y / 16 ≡ vb = omega arith in
    let e2 : y % 16 * 4 + z / 64 ≡ vc = omega arith in
    let e3 : z % 64 ≡ vd = omega arith in (
      x ∷ y ∷ z ∷ rest.0,
      IsBytes-group x y z rest.0 (omega arith) (omega arith) (omega arith) rest.1,
      sym (more_text x y z rest.0 ∙ rw (e0, e1, e2, e3, sa.1, sb.1, sc.1, sd.1, rest.2) refl),
    )

three_symbols : (a b c va vb vc : ℕ) → sextet a ≡ Some va → sextet b ≡ Some vb → sextet c ≡ Some vc → vc % 4 ≡ 0 → IsBase64 (a ∷ b ∷ c ∷ 61 ∷ [])
three_symbols a b c va vb vc ea eb ec zero_bits =
    let sa = symbol-sextet a va ea in
    let sb = symbol-sextet b vb eb in
    let sc = symbol-sextet c vc ec in
    let x : ℕ = va * 4 + vb / 16 in
    let y : ℕ = vb % 16 * 16 + vc / 4 in
    let e0 : x / 4 ≡ va = omega arith in
    let e1 : x % 4 * 16 + y / 16 ≡ vb = omega arith in
    let e2 : y % 16 * 4 ≡ vc = omega arith in (
      x ∷ y ∷ [],
      IsBytes-cons x (y ∷ []) (omega arith) (IsBytes-cons y [] (omega arith) IsBytes-nil),
      sym (two_text x y ∙ rw (e0, e1, e2, sa.1, sb.1, sc.1) refl),
    )

two_symbols : (a b va vb : ℕ) → sextet a ≡ Some va → sextet b ≡ Some vb → vb % 16 ≡ 0 → IsBase64 (a ∷ b ∷ 61 ∷ 61 ∷ [])
two_symbols a b va vb ea eb zero_bits =
    let sa = symbol-sextet a va ea in
    let sb = symbol-sextet b vb eb in
    let x : ℕ = va * 4 + vb / 16 in
    let e0 : x / 4 ≡ va = omega arith in
    let e1 : x % 4 * 16 ≡ vb = omega arith in
    (x ∷ [], IsBytes-cons x [] (omega arith) IsBytes-nil, sym (one_text x ∙ rw (e0, e1, sa.1, sb.1) refl))

-- what is read is the text of bytes
pub whole_encoded : (text : List ℕ) (t : Base64Text) → base64_after Whole text ≡ Some t → base64_may_end t ≡ true → IsBase64 text
whole_encoded [] t h e = ([], IsBytes-nil, sym (encode_of-nil standard))
whole_encoded (a ∷ []) t h e =
    let fa = whole_first t a [] h in
    cc (unended One t fa.2 e)
whole_encoded (a ∷ b ∷ []) t h e =
    let fa = whole_first t a (b ∷ []) h in
    let fb = one_first t b [] fa.2 in
    cc (unended (Two (fb.0 % 16 == 0)) t fb.2 e)
whole_encoded (a ∷ b ∷ c ∷ []) t h e =
    let fa = whole_first t a (b ∷ c ∷ []) h in
    let fb = one_first t b (c ∷ []) fa.2 in
    elim (two_first (fb.0 % 16 == 0) t c [] fb.2) [
      | inl p ↦ cc (unended Padding t p.2 e)
      | inr fc ↦ cc (unended (Three (fc.0 % 4 == 0)) t fc.2 e)
    ]
whole_encoded (a ∷ b ∷ c ∷ d ∷ text) t h e =
    let fa = whole_first t a (b ∷ c ∷ d ∷ text) h in
    let fb = one_first t b (c ∷ d ∷ text) fa.2 in
    elim (two_first (fb.0 % 16 == 0) t c (d ∷ text) fb.2) [
      | inl p ↦
          let fd = padding_first t d text p.2 in
          let none = padded_none t text fd.1 in
          rw (p.1, fd.0, none) (two_symbols a b fa.0 fb.0 fa.1 fb.1 (eqb-true (fb.0 % 16) 0 p.0))
      | inr fc ↦ elim (three_first (fc.0 % 4 == 0) t d text fc.2) [
        | inl p ↦
            let none = padded_none t text p.2 in
            rw (p.1, none) (three_symbols a b c fa.0 fb.0 fc.0 fa.1 fb.1 fc.1 (eqb-true (fc.0 % 4) 0 p.0))
        | inr fd ↦ whole_group a b c d fa.0 fb.0 fc.0 fd.0 text fa.1 fb.1 fc.1 fd.1 (whole_encoded text t fd.2 e)
      ]
    ]
