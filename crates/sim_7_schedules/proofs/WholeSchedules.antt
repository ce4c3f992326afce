-- A whole list of lines beside a run of the applications.
use Rattle.std.proofs.Common.{◌≡◌, ℕ, zero, suc, ◌≤◌, List, [], ◌∷◌, Some, refl, subst, arith}
use Rattle.std.proofs.lemmas.Option.{none-some, same_Some}
use Rattle.std.specs.List.{slice_get}
use Rattle.sim_3_items.specs.ItemWorlds.{ItemWorld}
use Rattle.sim_7_schedules.proofs.LinesAnswered.{schedule_answered}
use Rattle.sim_7_schedules.proofs.LinesRefused.{schedule_refused}
use Rattle.sim_7_schedules.proofs.LinesAlong.{IsBefore, lines_go}
use Rattle.sim_7_schedules.proofs.LinesDone.{lines_done}
use Rattle.cmd_schedule.specs.Schedules.{WireView}
use Rattle.cmd_schedule.specs.LineLists.{IsLineList, counted_in, ticked_in}
use Rattle.cmd_schedule.specs.WireGrammar.{nothing_above}
use Rattle.sim_7_schedules.proofs.FirstLinesBeginning.{first}
use Rattle.sim_7_schedules.specs.Simulation.{EachMoveSimulates, ScheduleSimulates, bounds}
use Rattle.sim_1_applications.specs.Devices.{Device, new_device}
use Rattle.sim_1_applications.specs.Events.{devices_of}
use Rattle.sim_1_applications.specs.Runs.{begins, owned_of}
use Rattle.cmd_world.specs.Histories.{world_at_start}
use Rattle.sim_5_moves.specs.Running.{WorldSimulates}

-- ---- the beginning

none_asked : (homes : List (List ℕ)) (i : ℕ) (d : Device) → slice_get (devices_of homes) i ≡ Some d → d.reading.asked ≤ 0
none_asked [] i d at = absurd (none-some d at)
none_asked (home ∷ homes) zero d at = subst (λ (e : Device). e.reading.asked ≤ 0) (same_Some (new_device home) d at) (omega arith)
none_asked (home ∷ homes) (suc i) d at = none_asked homes i d at

module _ (s : WireView) where
  -- no event led here, so nobody has said anything
  anew : (says : ℕ) (w : ItemWorld) → WorldSimulates s bounds says w (begins s) → WorldSimulates s bounds 0 w (begins s)
  anew says w r = record {
    simulation = r.simulation;
    in_bounds = record {
      led = record { events = []; reaches = refl; spoken = refl };
      said = omega arith;
      asked = r.in_bounds.asked;
      dialled = r.in_bounds.dialled;
      fits = r.in_bounds.fits;
      stands = r.in_bounds.stands;
      within = r.in_bounds.within;
    };
  }

  before_first : IsLineList s → IsBefore s nothing_above s.lines (world_at_start s) (begins s)
  before_first right =
      let f = first s right in
      let counted : counted_in s.lines ≤ 10000000 = right.counted in
      let ticked : ticked_in s.lines ≤ 253402207200000 = right.ticked in
      record {
        says = 0;
        pages = 0;
        items = f.items;
        encodes = f.encodes;
        runs = anew f.says f.items f.runs;
        most = λ i d at. none_asked _ i d at;
        said = omega (arith, counted);
        few = omega (arith, counted);
        times = omega arith;
        dials = omega arith;
        many = omega arith;
        moment = omega (arith, ticked);
      }

-- ---- all lines

pub schedule_runs : (s : WireView) → IsLineList s → EachMoveSimulates s → ScheduleSimulates s
schedule_runs s right each =
    let b = before_first s right in
    let all = lines_go s each s.lines nothing_above (world_at_start s) (begins s) right.lines b in
    record {
      runs = all.runs;
      done = lines_done (owned_of s) s.lines all.runs (world_at_start s) all.spoken (schedule_answered s all.runs right all.refused);
      first = record { says = b.says; items = b.items; encodes = b.encodes; runs = b.runs };
      go = all.go;
      last = all.last;
      reaches = all.reaches;
      refused = schedule_refused s all.runs right all.refused;
    }
