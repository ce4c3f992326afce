-- Behind a bind that is handled in the run beside a wire schedule's history.
use Rattle.std.proofs.Common.{◌≡◌, ℕ, List, ◌∷◌, ◌++◌, Some, length, map, subst}
use Rattle.std.specs.Prelude.{drop}
use Rattle.std.specs.List.{flat_map, slice_get}
use Rattle.cmd_schedule.specs.Contents.{Owned, accounts_of}
use Rattle.cmd_schedule.specs.Schedules.{WireView, keep_of}
use Rattle.cmd_schedule.specs.LineLists.{IsLineList}
use Rattle.sim_1_applications.proofs.Binds as binds
use Rattle.sim_1_applications.specs.Devices.{Device, epoch_of}
use Rattle.sim_1_applications.specs.Events.{AppEvent, At, Bind, Reaches}
use Rattle.sim_1_applications.specs.Histories.{state_after}
use Rattle.sim_1_applications.specs.Laws.{AreAbove}
use Rattle.sim_1_applications.specs.Runs.{begins, moves_of, owned_of, steps_in}
use Rattle.sim_7_schedules.proofs.Chains.{cut_at}
use Rattle.sim_7_schedules.specs.Simulation.{ScheduleSimulates}
use Rattle.cmd_world.proofs.Declares.{some_kept}

pub taken_after_handled : (s : WireView) → IsLineList s → (runs : ScheduleSimulates s) (front following : List AppEvent) (i : ℕ) (d : Device) → flat_map (λ move. move) (moves_of runs.runs) ≡ front ++ At i Bind ∷ following
    → slice_get (state_after (begins s) front).devices i ≡ Some d → AreAbove (epoch_of d.sessions) i (drop (length (state_after (begins s) front).takes) runs.last.takes)
taken_after_handled s right runs front following i d is there =
    let parts = cut_at front (At i Bind ∷ following) (begins s) runs.last (subst (λ es. Reaches es (begins s) runs.last) is runs.reaches) in
    let rest = parts.1 in
    binds.after_a_bind (state_after (begins s) front) rest.0 runs.last i d following
    (record {
      keep = keep_of s.version;
      some = some_kept s.version right.keeps;
      accounts = accounts_of (steps_in s);
      homes = map (λ (o : Owned). o.account) (owned_of s);
      events = front;
      reaches = parts.0;
    })
    there rest.1 rest.2
