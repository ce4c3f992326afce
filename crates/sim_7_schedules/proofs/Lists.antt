-- What the first worlds' lists have at their places.
use Rattle.std.proofs.Common.{◌≡◌, ℕ, zero, suc, List, [], ◌∷◌, Some, length, map, slice_get, refl, ap}
use Rattle.std.proofs.lemmas.Option.{none-some, same_Some}
use Rattle.cmd_schedule.specs.Contents.{Owned}
use Rattle.sim_1_applications.specs.Devices.{new_device}
use Rattle.sim_1_applications.specs.Events.{devices_of}

abbrev pub home : Owned → List ℕ
home o = o.account

-- a device is as new as the others
pub new_there : (os : List Owned) (i : ℕ) (o : Owned) → slice_get os i ≡ Some o → slice_get (devices_of (map home os)) i ≡ Some (new_device o.account)
new_there [] i o there = absurd (none-some o there)
new_there (p ∷ os) zero o there = ap (λ (q : Owned). Some (new_device q.account)) (same_Some p o there)
new_there (p ∷ os) (suc i) o there = new_there os i o there

-- one for each
pub one_each : (os : List Owned) → length (devices_of (map home os)) ≡ length os
one_each [] = refl
one_each (o ∷ os) = ap suc (one_each os)
