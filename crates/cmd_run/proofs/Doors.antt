-- Doors and the threads that were started, where nothing was served, and where connections were.
use Rattle.std.proofs.Common.{◌≡◌, ℕ, List, Option, Some, None, Result, Ok, Err, IfSome, MatchOption, inl, refl, subst, sym}
use Rattle.base_io.specs.Listed.{Listed}
use Rattle.net_hub.specs.Joined.{HasWorkers}
use Rattle.net_traits.specs.Links.{LinkView}
use Rattle.net_hub.specs.declared.fault.HubFault.{HubFault}
use Rattle.net_hub.specs.declared.fault.HubFault.TheVariants as hubs
use Rattle.cmd_run.specs.Dealings.{AreJoined, DoorView, OutsideView, door_view}
use Rattle.cmd_run.specs.Tellings.{Tells, door_cause}
use Rattle.cmd_run.specs.declared.cause.Cause.{Cause}
use Rattle.cmd_run.specs.declared.cause.Cause.TheVariants.{Door}
use Rattle.cmd_run.specs.declared.outcome.Outcome.TheVariants.{LinkFault}

at_rest : (door : Option DoorView) (s : ℕ) → IfSome door (λ old. MatchOption door (s ≡ s) (λ new. HasWorkers old.given new.given s s))
at_rest None s = tt
at_rest (Some door) s = inl (refl, refl)

-- the door is as it was, and no thread was started
pub still_joined : (before following : OutsideView) → following.door ≡ before.door → following.started ≡ before.started → AreJoined (record { before = before; following = following })
still_joined before following door started =
    subst (λ d. IfSome before.door (λ old. MatchOption d (following.started ≡ before.started) (λ new. HasWorkers old.given new.given before.started following.started))) (sym door)
    (subst (λ n. IfSome before.door (λ old. MatchOption before.door (n ≡ before.started) (λ new. HasWorkers old.given new.given before.started n))) (sym started)
    (at_rest before.door before.started))

-- connections were served
pub served_joined : {D : Type 0} (faults handed : D → ℕ) (given : D → List LinkView) (was : Option D) (old : D) (door : Option D) (s t : ℕ) → was ≡ Some old
    → MatchOption door (t ≡ s) (λ new. HasWorkers (given old) (given new) s t)
    → IfSome (door_view faults handed given was) (λ o. MatchOption (door_view faults handed given door) (t ≡ s) (λ n. HasWorkers o.given n.given s t))
served_joined faults handed given was old None s t is has = subst (λ w. IfSome (door_view faults handed given w) (λ o. t ≡ s)) (sym is) has
served_joined faults handed given was old (Some door) s t is has = subst (λ w. IfSome (door_view faults handed given w) (λ o. HasWorkers o.given (given door) s t)) (sym is) has

-- where the door failed, that is told
pub door_told : (served : Result (Listed ℕ) HubFault) (text : List ℕ) (cause : Option Cause) → Tells served LinkFault text → cause ≡ door_cause served → cause ≡ Some Door
door_told (Ok journal) text cause tells is = absurd tells
door_told (Err (hubs.BadLine line why)) text cause tells is = absurd tells
door_told (Err hubs.LinkFault) text cause tells is = is
door_told (Err hubs.NoWorker) text cause tells is = absurd tells
door_told (Err hubs.EntropyFault) text cause tells is = absurd tells
door_told (Err hubs.NoMemory) text cause tells is = absurd tells
