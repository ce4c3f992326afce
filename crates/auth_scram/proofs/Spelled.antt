-- What the messages are made of.
use Rattle.std.proofs.Common.{◌≡◌, ◌∙◌, ℕ, List, ◌++◌, length, drop, ap, arith, append-nil}
use Rattle.std.proofs.lemmas.List.{drop_all}

-- where all of a buffer is written, nothing of what it held is left
pub append-drop_all : (xs old : List ℕ) (n size : ℕ) → n ≡ size → length old ≡ size → xs ++ drop n old ≡ xs
append-drop_all xs old n size e l =
    ap (λ r. xs ++ r) (drop_all n old (omega arith)) ∙ append-nil xs
