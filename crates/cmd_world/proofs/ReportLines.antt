-- Lines so far, and those of what is left.
use Rattle.std.proofs.Common.{◌≡◌, ◌+◌, ℕ, List, [], ◌∷◌, ◌++◌, Some, drop, map, ap, append_assoc, sym, ◌∙◌}
use Rattle.std.specs.Prelude.{slice_get}
use Rattle.srv_core.proofs.Restarts.{next}

-- the line of the next one is added
pub line_more : {A B : Type 0} (f : A → B) (lines more due : List B) (xs : List A) (i : ℕ) (x : A) → slice_get xs i ≡ Some x → more ≡ lines ++ f x ∷ []
    → lines ++ map f (drop i xs) ≡ due → more ++ map f (drop (i + 1) xs) ≡ due
line_more f lines more due xs i x there is was =
    ap (λ m. m ++ map f (drop (i + 1) xs)) is ∙ append_assoc lines (f x ∷ []) (map f (drop (i + 1) xs))
    ∙ ap (λ ys. lines ++ map f ys) (sym (next xs i x there)) ∙ was
