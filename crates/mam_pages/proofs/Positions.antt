-- Rising numbers, cut at one of them.
use Rattle.std.proofs.Common.{◌≡◌, ℕ, zero, suc, ◌+◌, ◌<◌, ◌≤◌, true, false, List, [], ◌∷◌, ◌++◌, Some, length, take, drop, slice_get, ltb, leb, refl, ap, arith}
use Rattle.std.proofs.lemmas.Bool.Decides.{nat_tests}
use Rattle.std.proofs.lemmas.Option.{none-some, same_Some}
use Rattle.std.specs.List.{filter}
use Rattle.mam_pages.proofs.Rising.{filter_all, filter_none}
use Rattle.mam_pages.specs.Spans.{Rises}

-- a number among rising ones is within them
pub position_within : (low high i k : ℕ) (ns : List ℕ) → Rises low high ns → slice_get ns i ≡ Some k → (low < k) × (k ≤ high)
position_within low high i k [] rises is = absurd (none-some k is)
position_within low high zero k (n ∷ ns) rises is = let same : n ≡ k = same_Some n k is in rw (← same) (rises.0, rises.1)
position_within low high (suc i) k (n ∷ ns) rises is =
    let rest = position_within n high i k ns rises.2 is in
    (omega (arith, rest.0, rises.0), rest.1)

-- those up to the one at a place
pub up_to_position : (low high i k : ℕ) (ns : List ℕ) → Rises low high ns → slice_get ns i ≡ Some k → length (filter (λ n. leb n k) ns) ≡ suc i
up_to_position low high i k [] rises is = absurd (none-some k is)
up_to_position low high zero k (n ∷ ns) rises is =
    let same : n ≡ k = same_Some n k is in
    let here : leb n k ≡ true = grind (arith, nat_tests, same) in
    let none : filter (λ m. leb m k) ns ≡ [] = filter_none (λ m. leb m k) n high ns rises.2 (λ m above below. grind (arith, nat_tests, same)) in
    rw (here, none) refl
up_to_position low high (suc i) k (n ∷ ns) rises is =
    let above = position_within n high i k ns rises.2 is in
    let here : leb n k ≡ true = grind (arith, nat_tests, above.0) in
    rw here (ap suc (up_to_position n high i k ns rises.2 is))

-- those behind the one at a place
pub after_position : (low high i k : ℕ) (ns : List ℕ) → Rises low high ns → slice_get ns i ≡ Some k → filter (λ n. ltb k n) ns ≡ drop (suc i) ns
after_position low high i k [] rises is = absurd (none-some k is)
after_position low high zero k (n ∷ ns) rises is =
    let same : n ≡ k = same_Some n k is in
    let here : ltb k n ≡ false = grind (arith, nat_tests, same) in
    rw here (filter_all (λ m. ltb k m) n high ns rises.2 (λ m above below. grind (arith, nat_tests, same)))
after_position low high (suc i) k (n ∷ ns) rises is =
    let above = position_within n high i k ns rises.2 is in
    let here : ltb k n ≡ false = grind (arith, nat_tests, above.0) in
    rw here (after_position n high i k ns rises.2 is)

-- those before the one at a place
pub before_position : (low high i k : ℕ) (ns : List ℕ) → Rises low high ns → slice_get ns i ≡ Some k → filter (λ n. ltb n k) ns ≡ take i ns
before_position low high i k [] rises is = absurd (none-some k is)
before_position low high zero k (n ∷ ns) rises is =
    let same : n ≡ k = same_Some n k is in
    let here : ltb n k ≡ false = grind (arith, nat_tests, same) in
    rw here (filter_none (λ m. ltb m k) n high ns rises.2 (λ m above below. grind (arith, nat_tests, same)))
before_position low high (suc i) k (n ∷ ns) rises is =
    let above = position_within n high i k ns rises.2 is in
    let here : ltb n k ≡ true = grind (arith, nat_tests, above.0) in
    rw here (ap (λ t. n ∷ t) (before_position n high i k ns rises.2 is))

-- a list from the one at a place on
pub drop_at : (i x : ℕ) (ns : List ℕ) → slice_get ns i ≡ Some x → drop i ns ≡ x ∷ drop (suc i) ns
drop_at i x [] is = absurd (none-some x is)
drop_at zero x (n ∷ ns) is = ap (λ m. m ∷ ns) (same_Some n x is)
drop_at (suc i) x (n ∷ ns) is = drop_at i x ns is

pub take_at : (k x : ℕ) (ns : List ℕ) → slice_get ns k ≡ Some x → take (suc k) ns ≡ take k ns ++ x ∷ []
take_at k x [] is = absurd (none-some x is)
take_at zero x (n ∷ ns) is = ap (λ m. m ∷ []) (same_Some n x is)
take_at (suc k) x (n ∷ ns) is = ap (λ t. n ∷ t) (take_at k x ns is)

pub get_dropped : (p k : ℕ) (ns : List ℕ) → slice_get (drop p ns) k ≡ slice_get ns (p + k)
get_dropped zero k ns = let same : zero + k ≡ k = omega arith in rw same refl
get_dropped (suc p) k [] = refl
get_dropped (suc p) k (n ∷ ns) = let same : suc p + k ≡ suc (p + k) = omega arith in rw same (get_dropped p k ns)

pub get_taken : (m k : ℕ) (ns : List ℕ) → k < m → slice_get (take m ns) k ≡ slice_get ns k
get_taken zero k ns within = absurd (omega arith)
get_taken (suc m) k [] within = refl
get_taken (suc m) zero (n ∷ ns) within = refl
get_taken (suc m) (suc k) (n ∷ ns) within = get_taken m k ns (omega arith)

-- one that is within the list
pub get_within : (k : ℕ) (ns : List ℕ) → k < length ns → (x : ℕ) × (slice_get ns k ≡ Some x)
get_within k [] within = absurd (omega arith)
get_within zero (n ∷ ns) within = (n, refl)
get_within (suc k) (n ∷ ns) within = get_within k ns (omega arith)
