-- What is true of each pair of a list.
use Rattle.std.proofs.Common.{List, [], ◌∷◌, ◌++◌, map}
use Rattle.std.specs.List.{AllByRecursion}
use Rattle.cmd_report.specs.Lawful.{EachPair}
use Rattle.cmd_schedule.proofs.Lists.{all_of, all_map, all_front}
use Rattle.base_lemmas.proofs.Lists.{AllByRecursion-weaker}

-- pairs of which the first has what they want
pub pairs_by_first : {A : Type 0} (P : A → Type 0) (R : A → A → Type 0) → ((x y : A) → P x → R x y) → (xs : List A) → AllByRecursion P xs → EachPair R xs
pairs_by_first P R each [] all = tt
pairs_by_first P R each (x ∷ xs) all = (all_of (R x) (λ y. each x y all.0) xs, pairs_by_first P R each xs all.1)

-- pairs of which both have what they want
pub pairs_by_both : {A : Type 0} (P : A → Type 0) (R : A → A → Type 0) → ((x y : A) → P x → P y → R x y) → (xs : List A) → AllByRecursion P xs → EachPair R xs
pairs_by_both P R each [] all = tt
pairs_by_both P R each (x ∷ xs) all = (AllByRecursion-weaker P (R x) (λ y. each x y all.0) xs all.1, pairs_by_both P R each xs all.1)

pub pairs_front : {A : Type 0} (R : A → A → Type 0) (xs ys : List A) → EachPair R (xs ++ ys) → EachPair R xs
pairs_front R [] ys pairs = tt
pairs_front R (x ∷ xs) ys pairs = (all_front (R x) xs ys pairs.0, pairs_front R xs ys pairs.1)

pub pairs_map : {A B : Type 0} (R : B → B → Type 0) (f : A → B) (xs : List A) → EachPair (λ x y. R (f x) (f y)) xs → EachPair R (map f xs)
pairs_map R f [] pairs = tt
pairs_map R f (x ∷ xs) pairs = (all_map (R (f x)) f xs pairs.0, pairs_map R f xs pairs.1)
