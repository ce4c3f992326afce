-- Behind its dial a device is connected.
use Rattle.std.proofs.Common.{◌≡◌, ℕ, List, [], ◌∷◌, ◌++◌, Option, None, Some, length, refl, sym, ap, ◌∙◌, subst}
use Rattle.std.proofs.lemmas.Option.{none-some}
use Rattle.std.specs.List.{slice_get}
use Rattle.cmd_network.specs.Devices.{DeviceState, dials_at}
use Rattle.cmd_network.specs.Positions.{changed_where}
use Rattle.cmd_network.specs.Wires.{fresh_wire, left, put_up}
use Rattle.cmd_schedule.specs.Contents.{Owned}
use Rattle.cmd_schedule.specs.LineLists.{IsLineList}
use Rattle.cmd_schedule.specs.Schedules.{WireView}
use Rattle.cmd_schedule.specs.declared.schedule.WireLine.{WireLine}
use Rattle.cmd_world.specs.Histories.{world_at_start}
use Rattle.cmd_world.specs.Lines.{move_of, step_moves}
use Rattle.cmd_world.specs.Moves.{Dial, all_moved, dialed_by, moved}
use Rattle.cmd_world.specs.Worlds.{ByteWorld, client_entropy, number_at}
use Rattle.cmd_world.proofs.Numbers.{many_where}
use Rattle.sim_3_images.specs.WorldEncodings.{Both, DeviceEncodes}
use Rattle.sim_5_devices.proofs.Worlds.{set_here}
use Rattle.sim_5_moves.specs.Running.{IsOwned}
use Rattle.sim_7_schedules.proofs.Along.{Along, run_along, run_moves, stepped_last}
use Rattle.sim_7_schedules.specs.Calm.{IsConnectedBy}
use Rattle.sim_7_schedules.specs.LastLines.{EndsInDial, EndsInRun, world_behind}

last_there : {T : Type 0} (xs : List T) (x : T) → slice_get (xs ++ x ∷ []) (length xs) ≡ Some x
last_there [] x = refl
last_there (y ∷ xs) x = last_there xs x

dials : (i : ℕ) (W : ByteWorld) (e : DeviceState) → slice_get W.devices i ≡ Some e → IsConnectedBy (dialed_by i (Some e) W) i (length W.wires)
dials i W e is =
    let s = dials_at (client_entropy (number_at (length W.wires))) (length W.wires) e in
    let new = put_up s.put (fresh_wire i) in (
      s.device,
      record {
        there = set_here W.devices i e s.device is;
        newest = refl;
        wire = new;
        at = subst (λ n. slice_get (changed_where e.here left W.wires ++ new ∷ []) n ≡ Some new) (many_where e.here left W.wires) (last_there (changed_where e.here left W.wires) new);
        stands = refl;
      },
    )

-- a device that is there behind its dial was there before
by_device : (i : ℕ) (W : ByteWorld) (o : Option DeviceState) (d : DeviceState) → slice_get W.devices i ≡ o → slice_get (dialed_by i o W).devices i ≡ Some d → IsConnectedBy (dialed_by i o W) i (length W.wires)
by_device i W None d is at = absurd (none-some d (sym is ∙ at))
by_device i W (Some e) d is at = dials i W e is

pub dialled : (s : WireView) (lines : List WireLine) (i : ℕ) (dial : EndsInDial s lines i) → world_behind s lines ≡ moved (Dial i) (world_behind s dial.before)
dialled s lines i dial =
    let W = world_behind s dial.before in
    ap (world_behind s) dial.are ∙ stepped_last dial.before dial.line (world_at_start s) ∙ ap (λ step. all_moved (step_moves W.names (length W.wires) dial.line.number step) W) dial.step ∙ ap (λ o. all_moved (move_of Dial o) W) dial.of

other_some : {A B : Type 0} (R : A → B → Type 0) (oa : Option A) (ob : Option B) (b : B) → ob ≡ Some b → Both R oa ob → (a : A) × (oa ≡ Some a)
other_some R oa None b is both = absurd (none-some b is)
other_some R None (Some y) b is both = absurd both
other_some R (Some x) (Some y) b is both = (x, refl)

module _ (s : WireView) (right : IsLineList s) (before : List WireLine) (n : ℕ) (ends : EndsInRun s before n) (i : ℕ) (dial : EndsInDial s before i) (o : Owned) (owned : IsOwned s i o) where
  abbrev W : ByteWorld
  W = world_behind s dial.before

  along : Along s (run_moves s before n) (world_behind s before)
  along = run_along s right before n ends

  there : (d : DeviceState) × (slice_get (world_behind s before).devices i ≡ Some d)
  there =
      let its = (along.by.beside.runs.simulation.devices i o owned).represents in
      other_some DeviceEncodes (slice_get (world_behind s before).devices i) (slice_get along.by.beside.items.devices i) its.device its.there (along.by.beside.encodes.encoding.devices i)

  at_dial : slice_get (dialed_by i (slice_get W.devices i) W).devices i ≡ Some there.0
  at_dial = ap (λ (V : ByteWorld). slice_get V.devices i) (sym (dialled s before i dial)) ∙ there.1

  pub dialled_open : (position : ℕ) × IsConnectedBy (world_behind s before) i position
  dialled_open = (length W.wires, subst (λ V. IsConnectedBy V i (length W.wires)) (sym (dialled s before i dial)) (by_device i W (slice_get W.devices i) there.0 refl at_dial))
