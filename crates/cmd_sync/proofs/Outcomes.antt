-- What a course that is over came to, and what comes of a refusal.
use Rattle.std.proofs.Common.{◌≡◌, Result, Ok, Err, inl, inr, subst, List, ℕ}
use Rattle.std.specs.Prelude.{IfOk, IfErr}
use Rattle.cmd_sync.specs.Courses.{Course, CourseStep}
use Rattle.cmd_sync.specs.Syncs.{IsOutcome, IsTold, IsUnrun, IsUntold}
use Rattle.cmd_sync.specs.Talks.{CallStops, DialerView, IsHeld}
use Rattle.cmd_sync.specs.declared.sync_fault.Stop.TheVariants as stop
use Rattle.cmd_sync.specs.declared.sync_fault.SyncFault.{SyncFault}
use Rattle.cmd_sync.specs.declared.sync_fault.SyncFault.TheVariants.{BadLine, Link, Peer, Entropy, NoMemory}

pub outcome_untold : (fault : SyncFault) (start : CourseStep) (old new : DialerView) (now : Course) → IsHeld start old new now → IsOutcome fault now.stage → IsUntold fault start old new
outcome_untold (Peer failure) start old new now held e = (now, record { held = held; ends = e })
outcome_untold NoMemory start old new now held e = inr (now, record { held = held; ends = e })
outcome_untold (Link failure) start old new now held e = absurd e
outcome_untold (BadLine line why) start old new now held e = absurd e
outcome_untold Entropy start old new now held e = absurd e

pub untold_unrun : (fault : SyncFault) (start : CourseStep) (old new : DialerView) → IsUntold fault start old new → IsUnrun fault start old new
untold_unrun (Peer failure) start old new e = e
untold_unrun NoMemory start old new e = inr e
untold_unrun (Link failure) start old new e = e
untold_unrun (BadLine line why) start old new e = e
untold_unrun Entropy start old new e = e

-- memory ran out, for the dialer or behind it
pub stuck_unrun : (start : CourseStep) (old new : DialerView) → CallStops stop.NoMemory start old new → IsUnrun NoMemory start old new
stuck_unrun start old new (inl same) = inl same
stuck_unrun start old new (inr broken) = inr (inl broken)

pub run_ok : {A : Type 0} (r : Result A SyncFault) (items : A → List ℕ) (start other : CourseStep) (old new : DialerView) → start ≡ other → IfOk r (λ a. IsTold start old new (items a)) → IfOk r (λ a. IsTold other old new (items a))
run_ok r items start other old new same told = subst (λ (t : CourseStep). IfOk r (λ a. IsTold t old new (items a))) same told

pub run_err : {A : Type 0} (r : Result A SyncFault) (start other : CourseStep) (old new : DialerView) → start ≡ other → IfErr r (λ fault. IsUnrun fault start old new) → IfErr r (λ fault. IsUnrun fault other old new)
run_err (Ok a) start other old new same unrun = tt
run_err (Err fault) start other old new same unrun = subst (λ (t : CourseStep). IsUnrun fault t old new) same unrun
