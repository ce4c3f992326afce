-- Submissions that are settled one by one.
use Rattle.std.proofs.Common.{◌≡◌, ℕ, zero, suc, ◌+◌, ◌<◌, List, [], ◌∷◌, ◌++◌, length, get_or, set, map, take, drop, refl, ap, arith}
use Rattle.sm_outbox.specs.declared.said.Said.{Said}

pub settled_next : (f : Said → Said) (old : List Said) (i : ℕ) (d : Said) → i < length old → set (map f (take i old) ++ drop i old) i (f (get_or (map f (take i old) ++ drop i old) i d)) ≡ map f (take (suc i) old) ++ drop (suc i) old
settled_next f [] i d below = absurd (omega arith)
settled_next f (y ∷ ys) zero d below = refl
settled_next f (y ∷ ys) (suc i) d below = let h : i < length ys = omega arith in ap (λ (l : List Said). f y ∷ l) (settled_next f ys i d h)
