-- What is so of the owner at a place is so of it however that is known.
use Rattle.std.proofs.Common.{ℕ, Option, Some, slice_get, subst, sym, ◌∙◌}
use Rattle.std.proofs.Props.{props}
use Rattle.std.proofs.lemmas.Option.{same_Some}
use Rattle.cmd_schedule.specs.Contents.{Owned}
use Rattle.cmd_schedule.specs.Schedules.{WireView}
use Rattle.sim_1_applications.specs.Runs.{owned_of}
use Rattle.sim_5_moves.specs.Running.{IsOwned}

owners_set : IsSet (Option Owned)
owners_set = hlevel props

pub of_owner : (schedule : WireView) (i : ℕ) (P : (q : Owned) → IsOwned schedule i q → Type 0) (o : Owned) (owned : IsOwned schedule i o) → P o owned → (p : Owned) (is : IsOwned schedule i p) → P p is
of_owner schedule i P o owned here p is =
    subst (λ q. (at : IsOwned schedule i q) → P q at) (same_Some o p (sym owned ∙ is)) (λ at. subst (P o) (owners_set (slice_get (owned_of schedule) i) (Some o) owned at) here) is
