-- The places of names, where one more name is added.
use Rattle.std.proofs.Common.{◌≡◌, ℕ, ◌<◌, Bool, true, false, cond, ◌||◌, List, [], ◌∷◌, ◌++◌, length, Option, Some, None, String, refl, rules, sym, ap, ◌∙◌, suc, arith}
use Rattle.std.specs.List.{slice_get}
use Rattle.std.specs.BTreeMap.{get_by_text, BTreeMap}
use Rattle.std.specs.Map.{update}
use Rattle.std.specs.Option.{option_map, MatchOption, IfSome, IfNone, is_some}
use Rattle.std.specs.Str.{bytes_eq}
use Rattle.std.specs.Cmp.Lexicographic.{nat_list_eq_equiv}
use Rattle.std.proofs.lemmas.Slice.Eq.{bytes_eq-Decides}
use Rattle.base_io.specs.Names.{is_among, position_of}

-- what the place of a name says: where it stands, or that it is among none of the names
abbrev Stands : List ℕ → List (List ℕ) → Option ℕ → Type 0
Stands name names position =
    MatchOption position (is_among name names ≡ false) (λ i. (i < length names) × (slice_get names i ≡ Some name))

stands_after : (name other : List ℕ) (names : List (List ℕ)) (hit : Bool) → bytes_eq name other ≡ hit → (position : Option ℕ) → Stands name names position
    → Stands name (other ∷ names) (cond hit (Some 0) (option_map (λ i. suc i) position))
stands_after name other names true e position stands = (omega arith, ap Some (sym ((bytes_eq-Decides name other).0 e)))
stands_after name other names false e None stands = rw e stands
stands_after name other names false e (Some i) stands = (omega (arith, stands.0), stands.1)

stands : (name : List ℕ) (names : List (List ℕ)) → Stands name names (position_of name names)
stands name [] = refl
stands name (other ∷ names) = stands_after name other names (bytes_eq name other) refl (position_of name names) (stands name names)

some_part : {A : Type 0} (N : Type 0) (P : A → Type 0) (o : Option A) → MatchOption o N P → IfSome o P
some_part N P None fact = tt
some_part N P (Some x) fact = fact

none_part : {A : Type 0} (N : Type 0) (P : A → Type 0) (o : Option A) → MatchOption o N P → IfNone o N
none_part N P None fact = fact
none_part N P (Some x) fact = tt

-- a name stands at its place
pub stands_there : (name : List ℕ) (names : List (List ℕ)) → IfSome (position_of name names) (λ i. (i < length names) × (slice_get names i ≡ Some name))
stands_there name names = some_part _ _ (position_of name names) (stands name names)

-- a name with no place is among none of the names
pub stands_nowhere : (name : List ℕ) (names : List (List ℕ)) → IfNone (position_of name names) (is_among name names ≡ false)
stands_nowhere name names = none_part _ _ (position_of name names) (stands name names)

is_some_after : (hit : Bool) (position : Option ℕ) → is_some (cond hit (Some 0) (option_map (λ i. suc i) position)) ≡ (hit || is_some position)
is_some_after true position = refl
is_some_after false None = refl
is_some_after false (Some i) = refl

-- a name has a place where it is among the names
pub is_some-position_of : (name : List ℕ) (names : List (List ℕ)) → is_some (position_of name names) ≡ is_among name names
is_some-position_of name [] = refl
is_some-position_of name (other ∷ names) =
    is_some_after (bytes_eq name other) (position_of name names) ∙ ap (λ b. bytes_eq name other || b) (is_some-position_of name names)

or_false : (a b : Bool) → (a || b) ≡ false → (a ≡ false) × (b ≡ false)
or_false true b e = absurd (search (rules, e))
or_false false b e = (refl, e)

-- where the place of the new name is not that of the old one, one more name in front moves both
push_step : (hit same : Bool) → (hit ≡ true → same ≡ false) → (position : Option ℕ) (n : ℕ)
    → cond hit (Some 0) (option_map (λ i. suc i) (cond same (Some n) position)) ≡ cond same (Some (suc n)) (cond hit (Some 0) (option_map (λ i. suc i) position))
push_step true same apart position n = rw (apart refl) refl
push_step false true apart position n = refl
push_step false false apart position n = refl

apart_from : (new other : List ℕ) → bytes_eq new other ≡ false → (name : List ℕ) → bytes_eq name other ≡ true → bytes_eq new name ≡ false
apart_from new other differs name same = rw ((bytes_eq-Decides name other).0 same) differs

-- where the new name is not among the others, its place is their number
pub position_of-push : (new : List ℕ) (names : List (List ℕ)) → is_among new names ≡ false → (name : List ℕ)
    → position_of name (names ++ new ∷ []) ≡ update bytes_eq (λ q. position_of q names) new (Some (length names)) name
position_of-push new [] absent name = rw (nat_list_eq_equiv.symm name new) refl
position_of-push new (other ∷ names) absent name =
    let parts = or_false (bytes_eq new other) (is_among new names) absent in
    ap (λ o. cond (bytes_eq name other) (Some 0) (option_map (λ i. suc i) o)) (position_of-push new names parts.1 name)
    ∙ push_step (bytes_eq name other) (bytes_eq new name) (apart_from new other parts.0 name) (position_of name names) (length names)

module _ {Y : Type 0} (old new : BTreeMap (String Y) ℕ) where
  -- the map has the place of each name, where it had the places before and the new name was set to their number
  pub positions_with_new : (added : List ℕ) (names : List (List ℕ)) → is_among added names ≡ false → ((name : List ℕ) → get_by_text old name ≡ position_of name names)
      → ((name : List ℕ) → get_by_text new name ≡ update bytes_eq (get_by_text old) added (Some (length names)) name)
      → (name : List ℕ) → get_by_text new name ≡ position_of name (names ++ added ∷ [])
  positions_with_new added names absent had sets name =
      sets name ∙ ap (λ o. cond (bytes_eq added name) (Some (length names)) o) (had name) ∙ sym (position_of-push added names absent name)
