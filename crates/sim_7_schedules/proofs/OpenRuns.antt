-- A device that is connected when a run begins is connected in the end; but for two causes.
use Rattle.std.proofs.Common.{◌≡◌, ◌⊎◌, ℕ, ◌+◌, ◌≤◌, true, false, List, [], ◌∷◌, ◌++◌, Some, length, sym, ap, ◌∙◌, subst, arith, inl, inr}
use Rattle.std.proofs.lemmas.Bool.{false≢true}
use Rattle.std.proofs.lemmas.Option.{same_Some}
use Rattle.std.specs.List.{slice_get}
use Rattle.std.specs.Option.{option_map_or}
use Rattle.cl_handlers.specs.declared.phase.Phase.TheVariants as phase
use Rattle.cmd_network.specs.Devices.{DeviceState}
use Rattle.cmd_network.specs.declared.wire.Wire.{Wire}
use Rattle.cmd_schedule.specs.Contents.{Owned}
use Rattle.cmd_schedule.specs.LineLists.{IsLineList, ticked_in}
use Rattle.cmd_schedule.specs.Schedules.{WireView}
use Rattle.cmd_schedule.specs.declared.schedule.WireLine.{WireLine}
use Rattle.cmd_world.specs.Histories.{world_at_start, world_of}
use Rattle.cmd_world.specs.Lines.{all_stepped, round_from, stepped}
use Rattle.cmd_world.specs.Moves.{Move, all_moved}
use Rattle.cmd_world.specs.WorldReports.{is_open}
use Rattle.cmd_world.specs.Worlds.{ByteWorld}
use Rattle.cmd_world.proofs.AllMoves.{kept_by_lines}
use Rattle.sim_3_images.proofs.MovesKept.{kept_after, kept_first}
use Rattle.sim_3_images.specs.Kept.{IsFlowing, IsWorldKept}
use Rattle.sim_3_images.specs.WorldEncodings.{DeviceEncodes}
use Rattle.sim_5_moves.proofs.Known.{owned_there}
use Rattle.sim_5_moves.specs.Running.{IsOwned}
use Rattle.sim_7_schedules.proofs.Along.{Along, run_along, run_ends, run_moves}
use Rattle.sim_7_schedules.proofs.ByteMoves.{IsTimely}
use Rattle.sim_7_schedules.proofs.Connected as connected
use Rattle.sim_7_schedules.proofs.Handing.{rounds_hand}
use Rattle.sim_7_schedules.proofs.LineMoments.{line_moment}
use Rattle.sim_7_schedules.proofs.LinksShown as shown
use Rattle.sim_7_schedules.proofs.OpenBytes.{IsByteOpen, OpenOrAt}
use Rattle.sim_7_schedules.proofs.OpenMoves.{lone_rounds, moves_so, rounds_go}
use Rattle.sim_7_schedules.proofs.Resumed.{resumed}
use Rattle.sim_7_schedules.proofs.Said.{said_is_taken}
use Rattle.sim_7_schedules.proofs.Settled.{both_some}
use Rattle.sim_7_schedules.specs.Calm.{AsksLate, FillsQueue, HasNothingOlder, IsConnectedBy}
use Rattle.sim_7_schedules.specs.LastLines.{BothHave, EndsInDial, EndsInRun, IsConnected, said_in_epoch, server_session, taken_in_epoch, world_behind}
use Rattle.sim_7_schedules.specs.Simulation.{bounds}
use Rattle.sm_acks.specs.Delivery.{IsPrefix}
use Rattle.sm_live.specs.Sessions.{Session}
use Rattle.sim_1_applications.proofs.Lists.{all_at}

-- ---- worlds behind lines

timely_lines : (lines more : List WireLine) (W : ByteWorld) → W.moment + ticked_in (lines ++ more) ≤ 253402207200000 → (all_stepped lines W).moment ≤ 253402207200000
timely_lines [] more W low = omega (arith, low)
timely_lines (line ∷ lines) more W low =
    let soon = line_moment W.names (length W.wires) line.number W line.step in
    timely_lines lines more (stepped line W) (omega (arith, low, soon))

-- ---- the law

module _ (s : WireView) (right : IsLineList s) (before : List WireLine) (n : ℕ) (ends : EndsInRun s before n) (i position : ℕ) (is : IsConnectedBy (world_behind s before) i position) where
  abbrev W : ByteWorld
  W = world_behind s before

  abbrev ms : List Move
  ms = run_moves s before n

  along : Along s ms W
  along = run_along s right before n ends

  kept : IsWorldKept s W
  kept = kept_by_lines (IsWorldKept s) (kept_after s) before (world_at_start s) (kept_first s)

  timely : IsTimely W
  timely =
      let ticked : ticked_in s.lines ≤ 253402207200000 = right.ticked in
      timely_lines before (ends.line ∷ []) (world_at_start s) (subst (λ ls. 0 + ticked_in ls ≤ 253402207200000) ends.lines (omega (arith, ticked)))

  its : IsConnected W i is.0 position
  its = is.1

  here : is.0.here ≡ Some position
  here = (kept.newest i is.0 its.there).here position its.newest (ap (λ q. option_map_or (λ (b : Wire). is_open b.end) q false) its.at ∙ its.stands)

  owner : (o : Owned) × IsOwned s i o
  owner =
      let item = both_some DeviceEncodes (slice_get W.devices i) (slice_get along.by.beside.items.devices i) is.0 its.there (along.by.beside.encodes.encoding.devices i) in
      owned_there s bounds along.by.beside.says along.by.beside.items along.applications along.by.beside.runs i item.0 item.1

  -- the connection is the device's
  of : its.wire.device ≡ i
  of =
      let c = shown.conn_here s W along.applications along.by.beside i owner.0 owner.1 position is.0 its.there here in
      let p = shown.pair_at s W along.applications along.by.beside i owner.0 owner.1 position c.0 c.1 in
      ap (λ (b : Wire). b.device) (same_Some its.wire p.bytes (sym its.at ∙ p.there)) ∙ shown.of_device s W along.applications along.by.beside i owner.0 owner.1 position c.0 p

  begins : IsByteOpen i position W
  begins = record {
    wire = its.wire;
    there = its.at;
    of = of;
    flows = (all_at IsFlowing W.wires position its.wire kept.flowing its.at its.stands).0;
    device = is.0;
    has = its.there;
    here = here;
    newest = its.newest;
  }

  so_first : OpenOrAt position W.wires
  so_first b at = inl (ap (λ (c : Wire). is_open c.end) (same_Some b its.wire (sym at ∙ its.at)) ∙ its.stands)

  so_last : OpenOrAt position (all_moved ms W).wires
  so_last = moves_so ms W position (rounds_hand n (length W.wires)) so_first

  connected_then : IsByteOpen i position (all_moved ms W) → IsConnectedBy (world_of s) i position
  connected_then e =
      subst (λ V. IsConnectedBy V i position) (sym (run_ends s before n ends))
      (e.device, record { there = e.has; newest = e.newest; wire = e.wire; at = e.there; stands = stands (so_last e.wire e.there) })
    where
      stands : (is_open e.wire.end ≡ true) ⊎ (e.wire.up.ended ≡ true) → is_open e.wire.end ≡ true
      stands (inl open_still) = open_still
      stands (inr ended) = absurd (false≢true (sym e.flows ∙ ended))

  nothing_then : HasNothingOlder (all_moved ms W) i position → HasNothingOlder (world_of s) i position
  nothing_then nothing = subst (λ V. HasNothingOlder V i position) (sym (run_ends s before n ends)) nothing

  -- the first round
  abbrev one : List Move
  one = round_from 0 (length W.wires)

  -- and nothing older is under way
  pub stays_open : (IsConnectedBy (world_of s) i position × (1 ≤ n → HasNothingOlder (world_of s) i position)) ⊎ (AsksLate W one i position ⊎ FillsQueue W ms position)
  stays_open = by (rounds_go s right i owner.0 owner.1 position n along.events along.views along.last W along.applications along.by along.go timely begins)
    where
      by : (IsByteOpen i position (all_moved ms W) × (1 ≤ n → HasNothingOlder (all_moved ms W) i position)) ⊎ (AsksLate W one i position ⊎ FillsQueue W ms position)
          → (IsConnectedBy (world_of s) i position × (1 ≤ n → HasNothingOlder (world_of s) i position)) ⊎ (AsksLate W one i position ⊎ FillsQueue W ms position)
      by (inl e) = inl (connected_then e.0, λ some. nothing_then (e.1 some))
      by (inr cause) = inr cause

  pub lone_open : HasNothingOlder W i position → (IsConnectedBy (world_of s) i position × HasNothingOlder (world_of s) i position) ⊎ FillsQueue W ms position
  lone_open nothing = by (lone_rounds s right i owner.0 owner.1 position ms along.events along.views along.last W along.applications (rounds_hand n (length W.wires)) along.by.beside along.go timely begins nothing)
    where
      by : (IsByteOpen i position (all_moved ms W) × HasNothingOlder (all_moved ms W) i position) ⊎ FillsQueue W ms position → (IsConnectedBy (world_of s) i position × HasNothingOlder (world_of s) i position) ⊎ FillsQueue W ms position
      by (inl e) = inl (connected_then e.0, nothing_then e.1)
      by (inr f) = inr f

  pub comes_online : 7 ≤ n → ((d : DeviceState) × IsConnected (world_of s) i d position × (d.client.client.phase ≡ phase.Online)) ⊎ (AsksLate W one i position ⊎ FillsQueue W ms position)
  comes_online enough = by stays_open
    where
      by : (IsConnectedBy (world_of s) i position × (1 ≤ n → HasNothingOlder (world_of s) i position)) ⊎ (AsksLate W one i position ⊎ FillsQueue W ms position) → ((d : DeviceState) × IsConnected (world_of s) i d position × (d.client.client.phase ≡ phase.Online)) ⊎ (AsksLate W one i position ⊎ FillsQueue W ms position)
      by (inl e) = inl (e.0.0, e.0.1, connected.is_online s right before n ends i e.0.0 position e.0.1 enough)
      by (inr cause) = inr cause

  pub what_was_said : 8 ≤ n → (old : DeviceState) → slice_get (world_behind s before).devices i ≡ Some old → (o : Owned) → IsOwned s i o →
      ((d : DeviceState) × IsConnected (world_of s) i d position × (old.client.client.epoch ≡ d.client.client.epoch → IsPrefix (said_in_epoch d.client.client.epoch old (world_behind s before)) (taken_in_epoch d.client.client.epoch o (world_of s))))
      ⊎ (AsksLate W one i position ⊎ FillsQueue W ms position)
  what_was_said enough old there o owned = by stays_open
    where
      by : (IsConnectedBy (world_of s) i position × (1 ≤ n → HasNothingOlder (world_of s) i position)) ⊎ (AsksLate W one i position ⊎ FillsQueue W ms position) →
          ((d : DeviceState) × IsConnected (world_of s) i d position × (old.client.client.epoch ≡ d.client.client.epoch → IsPrefix (said_in_epoch d.client.client.epoch old (world_behind s before)) (taken_in_epoch d.client.client.epoch o (world_of s))))
          ⊎ (AsksLate W one i position ⊎ FillsQueue W ms position)
      by (inl e) = inl (e.0.0, e.0.1, λ same. said_is_taken s right before n ends i e.0.0 position e.0.1 o owned enough old there same)
      by (inr cause) = inr cause

  -- the session of the device is resumed, where the server has it in the end
  abbrev GoesOn : (o : Owned) → BothHave s (world_behind s before) i o → DeviceState → Type 0
  GoesOn o both d = (t : Session (List ℕ)) → server_session s o (world_of s) ≡ Some t → t.shown.number ≡ both.session.shown.number → (d.client.client.phase ≡ phase.Online) × (d.client.client.epoch ≡ both.device.client.client.epoch)

  pub is_resumed : 5 ≤ n → EndsInDial s before i → (o : Owned) → IsOwned s i o → (both : BothHave s (world_behind s before) i o) →
      ((d : DeviceState) × IsConnected (world_of s) i d position × ((t : Session (List ℕ)) → server_session s o (world_of s) ≡ Some t → t.shown.number ≡ both.session.shown.number → (d.client.client.phase ≡ phase.Online) × (d.client.client.epoch ≡ both.device.client.client.epoch)))
      ⊎ (AsksLate W one i position ⊎ FillsQueue W ms position)
  is_resumed enough dial o owned both = by stays_open
    where
      by : (IsConnectedBy (world_of s) i position × (1 ≤ n → HasNothingOlder (world_of s) i position)) ⊎ (AsksLate W one i position ⊎ FillsQueue W ms position) →
          ((d : DeviceState) × IsConnected (world_of s) i d position × GoesOn o both d) ⊎ (AsksLate W one i position ⊎ FillsQueue W ms position)
      by (inl e) = inl (e.0.0, e.0.1, λ t at number. resumed s right before n ends i e.0.0 position e.0.1 dial o owned both t at number enough)
      by (inr cause) = inr cause
