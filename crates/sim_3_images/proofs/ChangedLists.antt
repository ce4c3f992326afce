-- What holds of all of a list holds of all behind a change that keeps it.
use Rattle.std.proofs.Common.{◌≡◌, ℕ, zero, suc, List, [], ◌∷◌, Option, Some, None, IfSome, subst}
use Rattle.std.specs.List.{AllByRecursion, slice_get, slice_set}
use Rattle.cmd_network.specs.Positions.{changed_at, changed_where}

pub all_changed : {T : Type 0} (P : T → Type 0) (f : T → T) → ((x : T) → P x → P (f x)) → (position : ℕ) (l : List T) → AllByRecursion P l → AllByRecursion P (changed_at position f l)
all_changed P f keeps position [] all = tt
all_changed P f keeps zero (x ∷ l) all = (keeps x all.0, all.1)
all_changed P f keeps (suc position) (x ∷ l) all = (all.0, all_changed P f keeps position l all.1)

pub all_where : {T : Type 0} (P : T → Type 0) (f : T → T) → ((x : T) → P x → P (f x)) → (o : Option ℕ) (l : List T) → AllByRecursion P l → AllByRecursion P (changed_where o f l)
all_where P f keeps None l all = all
all_where P f keeps (Some position) l all = all_changed P f keeps position l all

pub all_set : {T : Type 0} (P : T → Type 0) (l : List T) (position : ℕ) (x : T) → P x → AllByRecursion P l → AllByRecursion P (slice_set l position x)
all_set P [] zero x here all = tt
all_set P [] (suc position) x here all = tt
all_set P (y ∷ l) zero x here all = (here, all.1)
all_set P (y ∷ l) (suc position) x here all = (all.0, all_set P l position x here all.1)

-- of what is found at a place
pub all_at : {T : Type 0} (P : T → Type 0) (l : List T) (position : ℕ) → AllByRecursion P l → IfSome (slice_get l position) P
all_at P [] zero all = tt
all_at P [] (suc position) all = tt
all_at P (x ∷ l) zero all = all.0
all_at P (x ∷ l) (suc position) all = all_at P l position all.1

pub all_found : {T : Type 0} (P : T → Type 0) (l : List T) (position : ℕ) (x : T) → slice_get l position ≡ Some x → AllByRecursion P l → P x
all_found P l position x found all = subst (λ o. IfSome o P) found (all_at P l position all)
