-- Each move of bytes is moves of items, and so is each history.
use Rattle.std.proofs.Common.{◌≡◌, ℕ, zero, suc, ◌+◌, true, false, List, [], ◌∷◌, ◌++◌, Option, Some, None, map, length, refl, sym, subst, ◌∙◌}
use Rattle.std.proofs.lemmas.Bool.{and_parts}
use Rattle.std.specs.List.{AllByRecursion, slice_get}
use Rattle.std.specs.Prelude.{IsTrue}
use Rattle.cl_handlers.specs.Clients.{ClientView}
use Rattle.srv_state.specs.State.{ServerState}
use Rattle.base_io.specs.Names.{position_of}
use Rattle.law_xml.proofs.PlainElements.{append_each}
use Rattle.sim_3_images.proofs.DialMoves.{close_is}
use Rattle.sim_3_images.proofs.Dialing.{dial_is}
use Rattle.sim_3_images.proofs.DownMoves.{down_moves}
use Rattle.xml_framer.specs.Limits.{client_limits, server_limits}
use Rattle.xml_framer.specs.declared.states.Phase.TheVariants as phase
use Rattle.sim_3_images.proofs.NetworkMoves.{cut_is, tick_is}
use Rattle.sim_3_images.proofs.PipeSteps.{empty_encodes}
use Rattle.sim_3_images.proofs.UpMoves.{moved_joined, up_is}
use Rattle.sim_3_images.proofs.UserMoves.{catch_up_is, forget_is, say_is}
use Rattle.sim_3_images.specs.EncodingsCores.{CoresFit, writer_at}
use Rattle.sim_3_images.specs.ItemRuns.{MayMove}
use Rattle.sim_3_images.specs.ItemStarts.{StartFits, item_device, items_at_start}
use Rattle.sim_3_images.specs.WorldEncodings.{Both, DeviceEncodes, IsMoved, IsReached, MovesEncode, WireAt, WorldEncodes, framer_here}
use Rattle.sim_3_images.proofs.FittingEncodings.{start_fits}
use Rattle.sim_3_items.specs.ItemMoves as items
use Rattle.sim_3_items.specs.ItemPipes.{ItemWire}
use Rattle.sim_3_items.specs.ItemWorlds.{ItemWorld}
use Rattle.cmd_schedule.specs.Contents.{Owned, owned_in}
use Rattle.cmd_schedule.specs.Grammar.{is_text}
use Rattle.cmd_schedule.specs.Schedules.{WireView, wire_steps_of}
use Rattle.cmd_schedule.specs.LineLists.{IsLineList}
use Rattle.cmd_schedule.specs.WireGrammar.{AreRunnable, WireAbove, above_by, may_run, nothing_above}
use Rattle.cmd_schedule.specs.declared.schedule.Step.{Step}
use Rattle.cmd_schedule.specs.declared.schedule.Step.TheVariants as step
use Rattle.cmd_schedule.specs.declared.schedule.WireLine.{WireLine}
use Rattle.cmd_schedule.specs.declared.schedule.WireStep.{WireStep}
use Rattle.cmd_schedule.specs.declared.schedule.WireStep.TheVariants as wire
use Rattle.srv_core.specs.Events.{framer_at}
use Rattle.cmd_network.specs.Positions.{position_under}
use Rattle.cmd_network.specs.declared.wire.Wire.{Wire}
use Rattle.cmd_world.proofs.Traces.{may_follow, may_run_all}
use Rattle.cmd_world.specs.Histories.{common_steps, history_of, owned_at_start, world_at_start, worlds_along, worlds_by}
use Rattle.cmd_world.specs.Lines.{common_moves, move_of, moves_of, passes_of, passes_where, round_from, rounds_of, step_moves, stepped}
use Rattle.cmd_world.specs.Moves as bytes
use Rattle.cmd_world.specs.Moves.{Move, all_moved, moved}
use Rattle.cmd_world.specs.Standing.{MayAllStep, MayStep}
use Rattle.cmd_world.specs.Worlds.{ByteWorld, number_at}
use Rattle.xml_writer.specs.Items.{ItemOut}

-- ---- the moves of a line may be made

of_position : (move : ℕ → Move) → ((position : ℕ) → MayMove (move position)) → (o : Option ℕ) → AllByRecursion MayMove (move_of move o)
of_position move may None = tt
of_position move may (Some position) = (may position, tt)

of_passes : (times position : ℕ) → AllByRecursion MayMove (passes_of times position)
of_passes zero position = tt
of_passes (suc times) position = (tt, (tt, of_passes times position))

of_passes_where : (times : ℕ) (o : Option ℕ) → AllByRecursion MayMove (passes_where times o)
of_passes_where times None = tt
of_passes_where times (Some position) = of_passes times position

of_round : (position count : ℕ) → AllByRecursion MayMove (round_from position count)
of_round position zero = tt
of_round position (suc count) = (tt, (tt, of_round (position + 1) count))

of_rounds : (times count : ℕ) → AllByRecursion MayMove (rounds_of times count)
of_rounds zero count = tt
of_rounds (suc times) count = append_each MayMove (round_from 0 count) (rounds_of times count) (of_round 0 count) (of_rounds times count)

-- the text of a message is one
abbrev MaySay : WireStep → Type 0
MaySay (wire.Common (step.Say device to text)) = IsTrue (is_text text)
MaySay (wire.Common (step.Private device to text)) = IsTrue (is_text text)
MaySay s = Unit {0}

runnable_says : (s : WireStep) (above : WireAbove) → IsTrue (may_run above s) → MaySay s
runnable_says (wire.Common (step.Say device to text)) above may = (and_parts _ _ may).1
runnable_says (wire.Common (step.Private device to text)) above may = (and_parts _ _ may).1
runnable_says (wire.Common (step.Account name)) above may = tt
runnable_says (wire.Common (step.Device name account)) above may = tt
runnable_says (wire.Common (step.Catchup device most)) above may = tt
runnable_says (wire.Common (step.Tick milliseconds)) above may = tt
runnable_says (wire.Dial device) above may = tt
runnable_says (wire.Forget device) above may = tt
runnable_says (wire.Close device) above may = tt
runnable_says (wire.Up k count) above may = tt
runnable_says (wire.Down k count) above may = tt
runnable_says (wire.Cut k up down) above may = tt
runnable_says (wire.Pass k times) above may = tt
runnable_says (wire.Run times) above may = tt

all_say : (lines : List WireLine) (above : WireAbove) → AreRunnable above (wire_steps_of lines) → AllByRecursion (λ (line : WireLine). MaySay line.step) lines
all_say [] above run = tt
all_say (line ∷ lines) above run = (runnable_says line.step above run.0, all_say lines (above_by line.step above) run.1)

of_common : (s : Step) (w : ByteWorld) (line : ℕ) → MayStep (wire.Common s) w → MaySay (wire.Common s) → AllByRecursion MayMove (common_moves w.names line s)
of_common (step.Account name) w line may says = tt
of_common (step.Device name account) w line may says = tt
of_common (step.Say device to text) w line may says = of_position (λ position. bytes.Say position line to text false) (λ position. (may, says)) (position_of device w.names)
of_common (step.Private device to text) w line may says = of_position (λ position. bytes.Say position line to text true) (λ position. (may, says)) (position_of device w.names)
of_common (step.Catchup device most) w line may says = of_position (λ position. bytes.CatchUp position line most) (λ position. may) (position_of device w.names)
of_common (step.Tick milliseconds) w line may says = (tt, tt)

of_step : (s : WireStep) (w : ByteWorld) (line : ℕ) → MayStep s w → MaySay s → AllByRecursion MayMove (step_moves w.names (length w.wires) line s)
of_step (wire.Common s) w line may says = of_common s w line may says
of_step (wire.Dial device) w line may says = of_position bytes.Dial (λ position. tt) (position_of device w.names)
of_step (wire.Forget device) w line may says = of_position bytes.Forget (λ position. tt) (position_of device w.names)
of_step (wire.Close device) w line may says = of_position bytes.Close (λ position. tt) (position_of device w.names)
of_step (wire.Up k count) w line may says = of_position (λ position. bytes.Up position count) (λ position. tt) (position_under k)
of_step (wire.Down k count) w line may says = of_position (λ position. bytes.Down position count) (λ position. tt) (position_under k)
of_step (wire.Cut k up down) w line may says = of_position (λ position. bytes.Cut position up down) (λ position. tt) (position_under k)
of_step (wire.Pass k times) w line may says = of_passes_where times (position_under k)
of_step (wire.Run times) w line may says = of_rounds times (length w.wires)

-- ---- the start

nothing_found : (position : ℕ) (p : ItemWire) → slice_get [] position ≡ Some p → ⊥
nothing_found zero p e = cc
nothing_found (suc position) p e = cc

none_there : {A B : Type 0} (R : ℕ → A → B → Type 0) (position : ℕ) → Both (R position) (slice_get [] position) (slice_get [] position)
none_there R zero = tt
none_there R (suc position) = tt

module _ (UpFits DownFits : ItemOut → Type 0) (ServerFits : ℕ → ServerState ItemOut → Type 0) (ClientFits : ClientView ItemOut → Type 0) where
  devices_at_start : (l : List Owned) (position : ℕ) → Both DeviceEncodes (slice_get (map owned_at_start l) position) (slice_get (map item_device l) position)
  devices_at_start [] zero = tt
  devices_at_start [] (suc position) = tt
  devices_at_start (o ∷ l) zero = record { client = refl; here = refl; framed = λ a. refl }
  devices_at_start (o ∷ l) (suc position) = devices_at_start l position

  pub start_encodes : (schedule : WireView) → StartFits ServerFits ClientFits schedule → WorldEncodes UpFits DownFits ServerFits ClientFits (world_at_start schedule) (items_at_start schedule)
  start_encodes schedule fits = record {
    encoding = record {
      moment = refl;
      server_state = refl;
      devices = devices_at_start (owned_in (common_steps schedule));
      as_many = refl;
      wires = none_there (WireAt (world_at_start schedule) (items_at_start schedule));
      takes = refl;
    };
    fits = start_fits UpFits DownFits (ServerFits 0) ClientFits schedule (record { server_state = fits.server_state; clients = fits.clients });
    begins = λ position p found. absurd (nothing_found position p found);
  }

  -- ---- no bytes

  both_there : {A B : Type 0} (R : A → B → Type 0) (oa : Option A) (ob : Option B) (a : A) (b : B) → oa ≡ Some a → ob ≡ Some b → Both R oa ob → R a b
  both_there R oa ob a b ea eb r = subst (λ o. Both R (Some a) o) eb (subst (λ o. Both R o ob) ea r)

  pub no_items_up : (w : ByteWorld) (v : ItemWorld) (position : ℕ) (b : Wire) (p : ItemWire) → WorldEncodes UpFits DownFits ServerFits ClientFits w v → slice_get w.wires position ≡ Some b → slice_get v.wires position ≡ Some p → b.up.ended ≡ false → b.up.bytes ≡ []
      → (p.up.ended ≡ false) × (p.up.items ≡ [])
  no_items_up w v position b p encodes there there_item open_still none =
      let i = both_there (WireAt w v position) (slice_get w.wires position) (slice_get v.wires position) b p there there_item (encodes.encoding.wires position) in
      (sym i.up.ended ∙ open_still, empty_encodes server_limits (Some phase.Between) (framer_at (number_at position) w.server.framers) b.up p.up i.up open_still none)

  pub no_items_down : (w : ByteWorld) (v : ItemWorld) (position : ℕ) (b : Wire) (p : ItemWire) → WorldEncodes UpFits DownFits ServerFits ClientFits w v → slice_get w.wires position ≡ Some b → slice_get v.wires position ≡ Some p → b.down.ended ≡ false → b.down.bytes ≡ []
      → (p.down.ended ≡ false) × (p.down.items ≡ [])
  no_items_down w v position b p encodes there there_item open_still none =
      let i = both_there (WireAt w v position) (slice_get w.wires position) (slice_get v.wires position) b p there there_item (encodes.encoding.wires position) in
      (sym i.down.ended ∙ open_still, empty_encodes client_limits (writer_at (number_at position) v.server) (framer_here position (slice_get w.devices b.device)) b.down p.down i.down open_still none)

  module _ (cores : CoresFit UpFits DownFits ServerFits ClientFits) where
    pub move_is : (m : Move) (w : ByteWorld) (v : ItemWorld) → MayMove m → WorldEncodes UpFits DownFits ServerFits ClientFits w v → IsMoved UpFits DownFits ServerFits ClientFits m w v
    move_is (bytes.Dial device) w v may i = dial_is UpFits DownFits ServerFits ClientFits cores device w v i
    move_is (bytes.Forget device) w v may i = forget_is UpFits DownFits ServerFits ClientFits cores device w v i
    move_is (bytes.Close device) w v may i = close_is UpFits DownFits ServerFits ClientFits cores device w v i
    move_is (bytes.Say device line to text private) w v may i = say_is UpFits DownFits ServerFits ClientFits cores device line to text private w v may.0 may.1 i
    move_is (bytes.CatchUp device line most) w v may i = catch_up_is UpFits DownFits ServerFits ClientFits cores device line most w v may.0 may.1 i
    move_is (bytes.Tick milliseconds) w v may i = tick_is UpFits DownFits ServerFits ClientFits cores milliseconds w v i
    move_is (bytes.Up position count) w v may i = up_is UpFits DownFits ServerFits ClientFits cores position count w v i
    move_is (bytes.Down position count) w v may i = down_moves UpFits DownFits ServerFits ClientFits cores position count w v i
    move_is (bytes.Cut position up down) w v may i = cut_is UpFits DownFits ServerFits ClientFits cores position up down w v i

    -- ---- worlds that are reached

    abbrev Reached : ItemWorld → ByteWorld → Type 0
    Reached start w = IsReached UpFits DownFits ServerFits ClientFits start w

    reached_more : (m : Move) (start : ItemWorld) (w : ByteWorld) → MayMove m → Reached start w → Reached start (moved m w)
    reached_more m start w may r =
        let h = move_is m w (items.all_moved r.moves start) may r.encodes in
        record { moves = r.moves ++ h.moves; encodes = subst (WorldEncodes UpFits DownFits ServerFits ClientFits (moved m w)) (sym (moved_joined r.moves h.moves start)) h.encodes }

    along_moves : (ms : List Move) (start : ItemWorld) (w : ByteWorld) → AllByRecursion MayMove ms → Reached start w → AllByRecursion (Reached start) (worlds_by ms w) × Reached start (all_moved ms w)
    along_moves [] start w may r = (tt, r)
    along_moves (m ∷ ms) start w may r =
        let one = reached_more m start w may.0 r in
        let more = along_moves ms start (moved m w) may.1 one in
        ((one, more.0), more.1)

    along_lines : (lines : List WireLine) (start : ItemWorld) (w : ByteWorld) → MayAllStep lines w → AllByRecursion (λ (line : WireLine). MaySay line.step) lines → Reached start w → AllByRecursion (Reached start) (worlds_along lines w)
    along_lines [] start w may says r = tt
    along_lines (line ∷ lines) start w may says r =
        let here = along_moves (moves_of line w) start w (of_step line.step w line.number may.0 says.0) r in
        append_each (Reached start) (worlds_by (moves_of line w) w) (worlds_along lines (stepped line w)) here.0 (along_lines lines start (stepped line w) may.1 says.1 here.1)

    pub history_is : (schedule : WireView) → IsLineList schedule → StartFits ServerFits ClientFits schedule → AllByRecursion (IsReached UpFits DownFits ServerFits ClientFits (items_at_start schedule)) (history_of schedule)
    history_is schedule is fits =
        let start : Reached (items_at_start schedule) (world_at_start schedule) = record { moves = []; encodes = start_encodes schedule fits } in
        (start, along_lines schedule.lines (items_at_start schedule) (world_at_start schedule) (may_follow schedule (world_at_start schedule) is refl) (all_say schedule.lines nothing_above (may_run_all schedule is)) start)

    -- ---- worlds of bytes beside those of items

    abbrev Go : List ByteWorld → ByteWorld → ItemWorld → Type 0
    Go ws w v = MovesEncode UpFits DownFits ServerFits ClientFits ws w v

    go_by : (ms : List Move) (rest : List ByteWorld) (w : ByteWorld) (v : ItemWorld) → AllByRecursion MayMove ms → WorldEncodes UpFits DownFits ServerFits ClientFits w v
        → ((x : ItemWorld) → WorldEncodes UpFits DownFits ServerFits ClientFits (all_moved ms w) x → Go rest (all_moved ms w) x) → Go (worlds_by ms w ++ rest) w v
    go_by [] rest w v may i more = more v i
    go_by (m ∷ ms) rest w v may i more =
        let h = move_is m w v may.0 i in
        (m, refl, (h, go_by ms rest (moved m w) (items.all_moved h.moves v) may.1 h.encodes more))

    go_along : (lines : List WireLine) (w : ByteWorld) (v : ItemWorld) → MayAllStep lines w → AllByRecursion (λ (line : WireLine). MaySay line.step) lines → WorldEncodes UpFits DownFits ServerFits ClientFits w v → Go (worlds_along lines w) w v
    go_along [] w v may says i = tt
    go_along (line ∷ lines) w v may says i =
        go_by (moves_of line w) (worlds_along lines (stepped line w)) w v (of_step line.step w line.number may.0 says.0) i (λ x j. go_along lines (stepped line w) x may.1 says.1 j)

    -- so many moves, of any world
    pub moves_are : (ms : List Move) (w : ByteWorld) (v : ItemWorld) → AllByRecursion MayMove ms → WorldEncodes UpFits DownFits ServerFits ClientFits w v → Go (worlds_by ms w) w v
    moves_are [] w v may i = tt
    moves_are (m ∷ ms) w v may i =
        let h = move_is m w v may.0 i in
        (m, refl, (h, moves_are ms (moved m w) (items.all_moved h.moves v) may.1 h.encodes))

    pub beside_is : (schedule : WireView) → IsLineList schedule → StartFits ServerFits ClientFits schedule → Go (worlds_along schedule.lines (world_at_start schedule)) (world_at_start schedule) (items_at_start schedule)
    beside_is schedule is fits = go_along schedule.lines (world_at_start schedule) (items_at_start schedule) (may_follow schedule (world_at_start schedule) is refl) (all_say schedule.lines nothing_above (may_run_all schedule is)) (start_encodes schedule fits)
