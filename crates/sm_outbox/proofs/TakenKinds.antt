-- Kinds that are taken off one by one.
use Rattle.std.proofs.Common.{◌≡◌, ℕ, ◌+◌, ◌-◌, ◌<◌, ◌≤◌, Bool, true, false, List, ◌∷◌, ◌++◌, Option, Some, None, IsSome, suc, length, take, drop, arith}
use Rattle.std.specs.Option.{option_to_list}
use Rattle.sm_outbox.specs.Waiting.{count_true, counted}

count_true-take : (m : ℕ) (b : Bool) (rest : List Bool) → counted (Some b) + count_true (take m rest) ≡ count_true (take (suc m) (b ∷ rest))
count_true-take m true rest = omega arith
count_true-take m false rest = omega arith

few_counted : (o : Option Bool) → counted o ≤ 1
few_counted None = omega arith
few_counted (Some true) = omega arith
few_counted (Some false) = omega arith

-- what holds of the kinds behind the next one
pub record IsNext (m s k all : ℕ) (o : Option Bool) (rest whole : List Bool) : Type 0 where
  pub left : m ≤ length rest
  pub few : s + counted o ≤ k + 1
  pub counted_is : s + counted o + count_true (take m rest) ≡ all
  pub dropped : drop m rest ≡ whole

next_some : (n k s all m : ℕ) (b : Bool) (rest whole : List Bool) → k < n → n - k ≤ length (b ∷ rest) → s ≤ k → s + count_true (take (n - k) (b ∷ rest)) ≡ all → drop (n - k) (b ∷ rest) ≡ whole → n - k ≡ suc m → IsNext m s k all (Some b) rest whole
next_some n k s all m b rest whole below left few counted_is dropped e =
    let c : s + count_true (take (suc m) (b ∷ rest)) ≡ all = rw e at counted_is in
    let d : drop (suc m) (b ∷ rest) ≡ whole = rw e at dropped in
    let one : counted (Some b) ≤ 1 = few_counted (Some b) in
    let sum : counted (Some b) + count_true (take m rest) ≡ count_true (take (suc m) (b ∷ rest)) = count_true-take m b rest in
    record { left = omega arith; few = omega arith; counted_is = omega arith; dropped = d }

pub next_taken : (n k s all m : ℕ) (o : Option Bool) (rest kinds whole : List Bool) → k < n → n - k ≤ length kinds → kinds ≡ option_to_list o ++ rest → (0 < length kinds → IsSome o) → s ≤ k → s + count_true (take (n - k) kinds) ≡ all → drop (n - k) kinds ≡ whole → n - k ≡ suc m → IsNext m s k all o rest whole
next_taken n k s all m None rest kinds whole below left e some few counted_is dropped h = let bad : IsSome {T = Bool} None = some (omega arith) in absurd cc
next_taken n k s all m (Some b) rest kinds whole below left e some few counted_is dropped h =
    next_some n k s all m b rest whole below (rw e at left) few (rw e at counted_is) (rw e at dropped) h
