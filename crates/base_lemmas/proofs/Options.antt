-- Options: what std's lemmas on them lack.
use Rattle.std.proofs.Common.{◌≡◌, ◌⊎◌, inl, inr, Option, Some, None, refl}
use Rattle.std.specs.Option.{IfNone, option_map, option_or}

pub some-none : {A : Type 0} (x : A) → Some x ≡ None → ⊥
some-none x e = cc

pub option_cases : {A : Type 0} (o : Option A) → (o ≡ None) ⊎ ((x : A) × (o ≡ Some x))
option_cases None = inl refl
option_cases (Some x) = inr (x, refl)

pub option_map-option_or : {A B : Type 0} (f : A → B) (o p : Option A) → option_map f (option_or o p) ≡ option_or (option_map f o) (option_map f p)
option_map-option_or f None p = refl
option_map-option_or f (Some x) p = refl

-- what follows from what a clause says where there is no value; std has `IfSome_then`
pub IfNone_then : {A : Type 0} (o : Option A) {P Q : Type 0} → IfNone o P → (P → Q) → IfNone o Q
IfNone_then None none then = then none
IfNone_then (Some x) none then = tt
