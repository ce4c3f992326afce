-- What a slice's `get` says, with the list's own words.
use Rattle.std.proofs.Common.{◌≡◌, ℕ, ◌<◌, ◌≤◌, List, Option, Some, None, length, Bor, refl, sym, arith}
use Rattle.std.proofs.lemmas.Bool.Decides.{nat_tests}
use Rattle.std.proofs.lemmas.Option.{slice_get_past, slice_get_read}
use Rattle.std.specs.List.{slice_get}
use Rattle.std.specs.Option.{IfSome, option_copied}
use Rattle.std.specs.Slice.{IsGetResult}

-- the item at a place, and none behind the last
pub copied_item : {X : Type 0} (xs : List X) (i : ℕ) (r : Option (Bor X)) → IsGetResult xs i i r → option_copied r ≡ slice_get xs i
copied_item xs i None item =
    let past : length xs ≤ i = grind (arith, nat_tests, item.0) in
    sym (slice_get_past xs i past)
copied_item xs i (Some x) item =
    let within : i < length xs = grind (arith, nat_tests, item.0) in
    sym (slice_get_read xs (length xs) i x.now refl within item.1)

-- the same of an item that is there
pub item_at : {X : Type 0} (xs : List X) (i : ℕ) (r : Option (Bor X)) → IsGetResult xs i i r → IfSome r (λ x. slice_get xs i ≡ Some x.now)
item_at xs i None item = tt
item_at xs i (Some x) item =
    let within : i < length xs = grind (arith, nat_tests, item.0) in
    slice_get_read xs (length xs) i x.now refl within item.1
