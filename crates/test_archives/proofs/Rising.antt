-- A first entry may be committed to a keeper that has none.
use Rattle.std.proofs.Common.{◌≡◌, ℕ, ◌+◌, List, [], ◌∷◌, None, Some, length, arith}
use Rattle.std.specs.List.{AllByRecursion}
use Rattle.mam_keep.specs.Changes.{AppendView, ChangeView, MayAppend, MayCommit, Rise}
use Rattle.mam_keep.specs.InMemory.{nothing_committed, tables_after}

rise_one : (owner : List ℕ) (xs : List AppendView) → AllByRecursion MayAppend xs → length xs ≡ 1 → Rise owner xs 0
rise_one owner [] may one = tt
rise_one owner (a ∷ []) may one = (λ is. may.0.low, tt)
rise_one owner (a ∷ b ∷ xs) may one = absurd (omega (arith, one))

pub first_may : (c : ChangeView) → MayCommit c None → length c.appends ≡ 1 → MayCommit c (Some (tables_after nothing_committed))
first_may c may one = record {
  session = may.session;
  appends = may.appends;
  rise = λ owner. rise_one owner c.appends may.appends one;
}
