-- What a cut keeps, where the first bytes of a list were handed over.
use Rattle.std.proofs.Common.{◌≡◌, ℕ, ◌+◌, min, List, length, take, drop, ap, refl, sym, ◌∙◌, inl, inr, arith}
use Rattle.std.proofs.lemmas.List.{drop-take, take_all}
use Rattle.std.proofs.lemmas.Bool.{cases_lt}

take_least : (n : ℕ) (xs : List ℕ) → take (min n (length xs)) xs ≡ take n xs
take_least n xs =
    elim (cases_lt n (length xs)) [
      | inl some ↦ (let same : min n (length xs) ≡ n = omega arith in rw same refl)
      | inr all ↦ (let same : min n (length xs) ≡ length xs = omega arith in rw (same, take_all (length xs) xs (omega arith), take_all n xs all) refl)
    ]

pub cut_short : (gone n kept : ℕ) (xs left : List ℕ) → left ≡ drop gone xs → kept ≡ min n (length left) → drop gone (take (gone + kept) xs) ≡ take n left
cut_short gone n kept xs left rest is =
    drop-take gone kept xs ∙ ap (take kept) (sym rest) ∙ ap (λ k. take k left) is ∙ take_least n left
