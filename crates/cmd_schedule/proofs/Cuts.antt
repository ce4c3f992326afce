-- A text is cut at the first place of a byte.
use Rattle.std.proofs.Common.{◌≡◌, ◌≢◌, ℕ, ◌+◌, ◌<◌, ◌≤◌, true, eqb, List, ◌∷◌, ◌++◌, All, get_or, length, take, drop, sym, ap, ◌∙◌, arith}
use Rattle.std.proofs.lemmas.Bool.{eq-eqb, eqb-true}
use Rattle.std.proofs.lemmas.List.{drop_more, get_or-take, get_or_default, length-take, take-append-drop}
use Rattle.std.specs.List.{slice_index}

pub cut_nowhere : (at : ℕ) (bytes : List ℕ) → ((k : ℕ) → 0 ≤ k → k < length bytes → eqb (slice_index bytes k) at ≡ true → ⊥) → All (λ b. b ≢ at) bytes
cut_nowhere at bytes none i d within is =
    none i (omega arith) within (eq-eqb (slice_index bytes i) at (get_or_default bytes i 0 d within ∙ is))

pub cut_there : (at i : ℕ) (bytes : List ℕ) → i < length bytes → ((k : ℕ) → 0 ≤ k → k < i → eqb (slice_index bytes k) at ≡ true → ⊥) → eqb (slice_index bytes i) at ≡ true
    → (bytes ≡ take i bytes ++ at ∷ drop (i + 1) bytes) × All (λ b. b ≢ at) (take i bytes)
cut_there at i bytes within before here = (
  sym (take-append-drop i bytes) ∙ ap (λ rest. take i bytes ++ rest) (drop_more bytes i 0 within)
      ∙ ap (λ b. take i bytes ++ b ∷ drop (i + 1) bytes) (eqb-true (get_or bytes i 0) at here),
  λ k d less is.
      let low : k < i = omega (arith, length-take i bytes) in
      before k (omega arith) low (eq-eqb (slice_index bytes k) at (get_or_default bytes k 0 d (omega arith) ∙ sym (get_or-take i bytes k d low) ∙ is)),
)
