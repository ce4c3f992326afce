-- Tests, and what passes them.
use Rattle.std.proofs.Common.{◌≡◌, ℕ, ◌<◌, ◌≤◌, Bool, true, false, eqb, Option, Some, None, refl, sym, ◌∙◌, arith, eq-eqb, le-leb}
use Rattle.std.proofs.lemmas.Bool.{and_parts, leb-true}
use Rattle.std.proofs.lemmas.Bool.Decides.{nat_tests}
use Rattle.std.specs.Option.{option_map}
use Rattle.auth_scram.specs.Classes.{is_within}
use Rattle.auth_scram.specs.States.{where_so}

pub within : (low high b : ℕ) → is_within low high b ≡ true → (low ≤ b) × (b ≤ high)
within low high b h = let parts = and_parts _ _ h in (leb-true low b parts.0, leb-true b high parts.1)

pub within_yes : (low high b : ℕ) → low ≤ b → b ≤ high → is_within low high b ≡ true
within_yes low high b l h = rw (le-leb low b l, le-leb b high h) refl

pub within_low : (low high b : ℕ) → b < low → is_within low high b ≡ false
within_low low high b l = grind (arith, nat_tests)

pub within_high : (low high b : ℕ) → high < b → is_within low high b ≡ false
within_high low high b l = grind (arith, nat_tests)

pub map_some : {X A : Type 0} (f : X → A) (o : Option X) (u : A) → option_map f o ≡ Some u → (v : X) × (o ≡ Some v) × (u ≡ f v)
map_some f None u h = cc h
map_some f (Some v) u h = (v, refl, cc h)

pub if_some : {A : Type 0} (b : Bool) (s u : A) → where_so b s ≡ Some u → (b ≡ true) × (u ≡ s)
if_some true s u h = (refl, cc h)
if_some false s u h = cc h

pub not_eq : (a b : ℕ) → eqb a b ≡ false → a ≡ b → ⊥
not_eq a b h e = let bad = sym (eq-eqb a b e) ∙ h in cc bad
