-- The lines of connections can be read: each is of a device of the schedule, and its counts have 64 bits.
use Rattle.std.proofs.Common.{◌≡◌, ℕ, zero, suc, ◌+◌, ◌<◌, ◌^◌, List, [], ◌∷◌, ◌++◌, Some, length, map, sym, ap, ◌∙◌, subst, arith}
use Rattle.std.proofs.lemmas.Option.{none-some, same_Some}
use Rattle.std.specs.List.{AllByRecursion, slice_get}
use Rattle.std.specs.Prelude.{IfSome}
use Rattle.cmd_direct.proofs.TurnRuns.{all_positions}
use Rattle.cmd_network.specs.Devices.{DeviceState}
use Rattle.sim_3_images.proofs.NetworkMoves.{found_both}
use Rattle.sim_3_images.specs.WorldEncodings.{WireAt}
use Rattle.sim_3_items.specs.ItemPipes.{ItemWire}
use Rattle.sim_3_images.proofs.ChangedLists.{all_at}
use Rattle.law_reports.proofs.Declared.{IsNamed}
use Rattle.law_reports.proofs.Fields.{name_visible, visible_field}
use Rattle.law_reports.proofs.RunLines.{IsLineRight, wire_lines_right}
use Rattle.cmd_report_reader.specs.Readable.{IsConn}
use Rattle.cmd_schedule.specs.Contents.{Owned, device_name, owned_at, owned_in}
use Rattle.cmd_schedule.specs.Schedules.{WireView, seen_of, steps_of}
use Rattle.cmd_schedule.specs.LineLists.{IsLineList}
use Rattle.cmd_schedule.specs.WireGrammar.{nothing_above}
use Rattle.cmd_schedule.specs.declared.schedule.Line.{Line}
use Rattle.cmd_schedule.specs.declared.schedule.Step.{Step}
use Rattle.cmd_schedule.specs.declared.schedule.Step.TheVariants.{Device}
use Rattle.sim_7_schedules.specs.Simulation.{Simulates}
use Rattle.sim_1_applications.specs.Devices as sessions
use Rattle.sim_1_applications.specs.Runs.{owned_of}
use Rattle.sim_7_schedules.proofs.CountedBytes.{AreCounted}
use Rattle.cmd_network.specs.declared.wire.Wire.{Wire}
use Rattle.cmd_world.specs.WorldReports.{conn_lines, name_at}
use Rattle.cmd_world.specs.Worlds.{ByteWorld}
use Rattle.sim_3_images.specs.Kept.{IsWorldKept, owned_by}

-- ---- names of devices

abbrev IsOwner : Owned → Type 0
IsOwner o = IsNamed o.device

step_named : (step : Step) (rest : List Owned) → AllByRecursion IsNamed (device_name step) → AllByRecursion IsOwner rest → AllByRecursion IsOwner (owned_at step ++ rest)
step_named (Device name account) rest named all = (named.0, all)
step_named step rest named all = all

lines_named : (lines : List Line) → AllByRecursion IsLineRight lines → AllByRecursion IsOwner (owned_in (steps_of lines))
lines_named [] right = tt
lines_named (line ∷ lines) right = step_named line.step (owned_in (steps_of lines)) right.0.device (lines_named lines right.1)

owners_named : (s : WireView) → IsLineList s → AllByRecursion IsOwner (owned_of s)
owners_named s right = lines_named (seen_of s).lines (wire_lines_right nothing_above s.lines right.lines)

name_there : (ds : List DeviceState) (position : ℕ) (o : Owned) → slice_get (map owned_by ds) position ≡ Some o → name_at position ds ≡ o.device
name_there [] position o at = absurd (none-some o at)
name_there (d ∷ ds) zero o at = ap (λ (p : Owned). p.device) (same_Some (owned_by d) o at)
name_there (d ∷ ds) (suc position) o at = name_there ds position o at

-- ---- connections

-- of each the device has a name
wire_named : (s : WireView) → IsLineList s → (W : ByteWorld) (x : sessions.AppWorld) → IsWorldKept s W → Simulates s W x → (position : ℕ) (b : Wire) → slice_get W.wires position ≡ Some b → IsNamed (name_at b.device W.devices)
wire_named s right W x kept beside position b at =
    let v = beside.items in
    let found = found_both (WireAt W v position) b (slice_get W.wires position) (slice_get v.wires position) at (beside.encodes.encoding.wires position) in
    let wire : ItemWire = found.other in
    let owner = beside.runs.simulation.wires position wire found.is in
    let same : b.device ≡ wire.device = found.holds.device in
    let there : slice_get (map owned_by W.devices) b.device ≡ Some owner.0 = ap (λ os. slice_get os b.device) kept.owners ∙ ap (λ i. slice_get (owned_of s) i) same ∙ owner.1 in
    subst IsNamed (sym (name_there W.devices b.device owner.0 there)) (subst (λ o. IfSome o IsOwner) owner.1 (all_at IsOwner (owned_of s) wire.device (owners_named s right)))

lines_right : (devices : List DeviceState) (k : ℕ) (ws : List Wire) → k + length ws < 2 ^ 64 → AreCounted ws → AllByRecursion (λ (b : Wire). IsNamed (name_at b.device devices)) ws → AllByRecursion IsConn (conn_lines devices k ws)
lines_right devices k [] low counts named = tt
lines_right devices k (b ∷ ws) low counts named = (
  record {
    k = omega arith;
    device = visible_field (name_at b.device devices) (name_visible (name_at b.device devices) named.0);
    upput = counts.0.up.put;
    uptaken = counts.0.up.taken;
    downput = counts.0.down.put;
    downtaken = counts.0.down.taken;
  },
  lines_right devices (k + 1) ws (omega arith) counts.1 named.1,
)

pub conns_right : (s : WireView) → IsLineList s → (W : ByteWorld) (x : sessions.AppWorld) → IsWorldKept s W → Simulates s W x → AreCounted W.wires → AllByRecursion IsConn (conn_lines W.devices 1 W.wires)
conns_right s right W x kept beside counts =
    let many = beside.encodes.encoding.as_many in
    let few = beside.runs.in_bounds.dialled in
    lines_right W.devices 1 W.wires (omega arith) counts (all_positions (λ (b : Wire). IsNamed (name_at b.device W.devices)) W.wires (wire_named s right W x kept beside))
