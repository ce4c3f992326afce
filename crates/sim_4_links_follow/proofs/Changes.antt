-- The item under a number of a list is changed, and the others are not.
use Rattle.std.proofs.Common.{◌≡◌, ◌≢◌, ℕ, zero, suc, List, [], ◌∷◌, ◌+◌, refl, ap, slice_get, add-one}
use Rattle.std.specs.Option.{option_map}
use Rattle.sim_3_items.specs.Pipes.{under}
use Rattle.cmd_network.specs.Positions.{changed_at, changed_under}

pub changed_there : {T : Type 0} (position : ℕ) (f : T → T) (items : List T) → slice_get (changed_at position f items) position ≡ option_map f (slice_get items position)
changed_there position f [] = refl
changed_there zero f (item ∷ items) = refl
changed_there (suc position) f (item ∷ items) = changed_there position f items

pub changed_elsewhere : {T : Type 0} (position other : ℕ) (f : T → T) (items : List T) → position ≢ other → slice_get (changed_at position f items) other ≡ slice_get items other
changed_elsewhere position other f [] apart = refl
changed_elsewhere zero zero f (item ∷ items) apart = absurd (apart refl)
changed_elsewhere zero (suc other) f (item ∷ items) apart = refl
changed_elsewhere (suc position) zero f (item ∷ items) apart = refl
changed_elsewhere (suc position) (suc other) f (item ∷ items) apart = changed_elsewhere position other f items (λ e. apart (ap suc e))

pub under_changed : {T : Type 0} (k : ℕ) (f : T → T) (items : List T) → under k (changed_under k f items) ≡ option_map f (under k items)
under_changed zero f items = refl
under_changed (suc position) f items = changed_there position f items

pub under_other : {T : Type 0} (k other : ℕ) (f : T → T) (items : List T) → k ≢ other → under other (changed_under k f items) ≡ under other items
under_other zero other f items apart = refl
under_other (suc position) zero f items apart = refl
under_other (suc position) (suc other) f items apart = changed_elsewhere position other f items (λ e. apart (ap suc e))

-- a place, from 0, is that of the number behind it
pub under_position : {T : Type 0} (position : ℕ) (items : List T) → under (position + 1) items ≡ slice_get items position
under_position position items = rw add-one refl

pub at_position : {T : Type 0} (position : ℕ) (f : T → T) (items : List T) → changed_at position f items ≡ changed_under (position + 1) f items
at_position position f items = rw add-one refl
