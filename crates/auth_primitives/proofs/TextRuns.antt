-- The bytes of a text are bytes.
use Rattle.std.proofs.Common.{◌≡◌, ℕ, ◌+◌, ◌/◌, ◌%◌, ◌<◌, true, ltb, leb, ◌&&◌, List, [], ◌∷◌, refl, sym, subst, arith, inl, inr, lt-ltb, le-ltb}
use Rattle.std.proofs.lemmas.Bool.{and_parts, cases_lt, ltb-true}
use Rattle.std.specs.Str.{IsUtf8}
use Rattle.base64.specs.GeneralPurpose.{IsBytes}
use Rattle.auth_primitives.proofs.ByteSteps.{IsBytes-append, IsBytes-cons, IsBytes-nil}
use Rattle.base_lemmas.proofs.Conditions.{chosen}
use lib.Utf8.{encode, encodes, next, scalar, scalars}

scalar_below : (c : ℕ) → scalar c ≡ true → c < 1114112
scalar_below c h =
    elim (chosen (ltb c 55296) true (leb 57344 c && ltb c 1114112) true h) [
      | inl p ↦ (let low = ltb-true c 55296 p.0 in omega arith)
      | inr q ↦ ltb-true c 1114112 (and_parts (leb 57344 c) (ltb c 1114112) q.1).1
    ]

next_fits : (bits : ℕ) (bytes : List ℕ) → IsBytes bytes → IsBytes (next bits ∷ bytes)
next_fits bits bytes fits = IsBytes-cons (128 + bits % 64) bytes (omega arith) fits

character_fits : (c : ℕ) → c < 1114112 → IsBytes (encode c)
unfolding encode
character_fits c below =
    elim (cases_lt c 128) [
      | inl a ↦
          let one : encode c ≡ c ∷ [] = rw (lt-ltb c 128 a) refl in
          subst IsBytes (sym one) (IsBytes-cons c [] (omega arith) IsBytes-nil)
      | inr a ↦ elim (cases_lt c 2048) [
        | inl b ↦
            let two : encode c ≡ (192 + c / 64) ∷ next c ∷ [] = rw (le-ltb c 128 a, lt-ltb c 2048 b) refl in
            subst IsBytes (sym two) (IsBytes-cons (192 + c / 64) (next c ∷ []) (omega arith) (next_fits c [] IsBytes-nil))
        | inr b ↦ elim (cases_lt c 65536) [
          | inl d ↦
              let three : encode c ≡ (224 + c / 4096) ∷ next (c / 64) ∷ next c ∷ [] = rw (le-ltb c 128 a, le-ltb c 2048 b, lt-ltb c 65536 d) refl in
              subst IsBytes (sym three) (IsBytes-cons (224 + c / 4096) (next (c / 64) ∷ next c ∷ []) (omega arith) (next_fits (c / 64) (next c ∷ []) (next_fits c [] IsBytes-nil)))
          | inr d ↦
              let four : encode c ≡ (240 + c / 262144) ∷ next (c / 4096) ∷ next (c / 64) ∷ next c ∷ [] = rw (le-ltb c 128 a, le-ltb c 2048 b, le-ltb c 65536 d) refl in
              subst IsBytes (sym four) (IsBytes-cons (240 + c / 262144) (next (c / 4096) ∷ next (c / 64) ∷ next c ∷ []) (omega arith) (next_fits (c / 4096) (next (c / 64) ∷ next c ∷ []) (next_fits (c / 64) (next c ∷ []) (next_fits c [] IsBytes-nil))))
        ]
      ]
    ]

characters_fit : (cs : List ℕ) → scalars cs ≡ true → IsBytes (encodes cs)
characters_fit [] h = IsBytes-nil
characters_fit (c ∷ cs) h =
    let parts = and_parts (scalar c) (scalars cs) h in
    IsBytes-append (encode c) (encodes cs) (character_fits c (scalar_below c parts.0)) (characters_fit cs parts.1)

pub IsBytes-from_utf8 : (text : List ℕ) → IsUtf8 text → IsBytes text
IsBytes-from_utf8 text u = subst IsBytes u.1.1 (characters_fit u.0 u.1.0)
