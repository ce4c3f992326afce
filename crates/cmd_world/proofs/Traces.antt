-- A schedule's lines may all be followed: the clock stays below 2 ^ 64, and accounts stay as they are.
use Rattle.std.proofs.Common.{◌≡◌, ◌≤◌, ◌+◌, ◌==◌, ℕ, zero, suc, Bool, true, false, cond, List, [], ◌∷◌, ◌++◌, length, Option, Some, None, ap, refl, sym, subst, ◌∙◌, arith}
use Rattle.std.proofs.lemmas.Bool.{and_parts, leb-true}
use Rattle.std.specs.Prelude.{IfOk, IsTrue, ◌&&◌, Result, nat_le, slice_get, slice_set}
use Rattle.cmd_network.specs.Devices.{DeviceState}
use Rattle.base_io.specs.Names.{is_among, position_of}
use Rattle.net_pipes.specs.Pipes.{is_end_due}
use Rattle.cmd_report.specs.Reports.{ReportView}
use Rattle.cmd_schedule.specs.Contents.{accounts_of}
use Rattle.cmd_schedule.specs.Grammar.{is_name, is_text}
use Rattle.cmd_schedule.specs.Schedules.{WireView, wire_steps_of}
use Rattle.cmd_schedule.proofs.LineLists.{listed}
use Rattle.cmd_schedule.specs.LineLists.{AreListed, IsLineList, ticked_in, ticked_of}
use Rattle.cmd_schedule.specs.WireGrammar.{AreRunnable, IsWireSchedule, WireAbove, above_by, may_run, nothing_above}
use Rattle.cmd_schedule.specs.declared.schedule.Count.{Count}
use Rattle.cmd_schedule.specs.declared.schedule.Count.TheVariants.{All}
use Rattle.cmd_schedule.specs.declared.schedule.Step.{Step}
use Rattle.cmd_schedule.specs.declared.schedule.Step.TheVariants as step
use Rattle.cmd_schedule.specs.declared.schedule.TheConstants.{MOST_TICK}
use Rattle.cmd_schedule.specs.declared.schedule.WireLine.{WireLine}
use Rattle.cmd_schedule.specs.declared.schedule.WireStep.{WireStep}
use Rattle.cmd_schedule.specs.declared.schedule.WireStep.TheVariants as wire
use Rattle.srv_core.specs.Events.{after_gone}
use Rattle.cmd_network.specs.Positions.{position_under}
use Rattle.cmd_network.specs.Wires.{amount, up_end_reported}
use Rattle.cmd_network.specs.declared.wire.Wire.{Wire}
use Rattle.cmd_world.proofs.Declares.{are_accounts, are_few}
use Rattle.cmd_world.proofs.TurnsLeft.{moved_join}
use Rattle.cmd_world.specs.Histories.{common_steps, world_at_start, world_of}
use Rattle.cmd_world.specs.Lines.{all_stepped, common_moves, move_of, pass_of, passes_of, passes_where, round_from, rounds_of, step_moves, stepped}
use Rattle.cmd_world.specs.Moves as moves
use Rattle.cmd_world.specs.Moves.{Move, all_moved, caught_up_by, closed_by, dialed_by, down_by, down_to, forgot_by, moved, reported_up, said_by, served, served_by}
use Rattle.cmd_world.specs.Standing.{IsNumbered, MayAllStep, MayAsk, MayStep}
use Rattle.cmd_world.specs.WorldReports.{report_of}
use Rattle.cmd_world.specs.Worlds.{ByteWorld, number_at}

-- ---- what no move but that of the clock changes

record Stays (v w : ByteWorld) : Type 0 where
  moment : v.moment ≡ w.moment
  accounts : v.accounts ≡ w.accounts

stays : (w : ByteWorld) → Stays w w
stays w = record { moment = refl; accounts = refl }

stays_on : (u v w : ByteWorld) → Stays u v → Stays v w → Stays u w
stays_on u v w a b = record { moment = a.moment ∙ b.moment; accounts = a.accounts ∙ b.accounts }

stays_if : (b : Bool) (u v w : ByteWorld) → Stays u w → Stays v w → Stays (cond b u v) w
stays_if true u v w p q = p
stays_if false u v w p q = q

stays_dialed : (position : ℕ) (o : Option DeviceState) (w : ByteWorld) → Stays (dialed_by position o w) w
stays_dialed position None w = stays w
stays_dialed position (Some d) w = record { moment = refl; accounts = refl }

stays_forgot : (position : ℕ) (o : Option DeviceState) (w : ByteWorld) → Stays (forgot_by position o w) w
stays_forgot position None w = stays w
stays_forgot position (Some d) w = record { moment = refl; accounts = refl }

stays_closed : (position : ℕ) (o : Option DeviceState) (w : ByteWorld) → Stays (closed_by position o w) w
stays_closed position None w = stays w
stays_closed position (Some d) w = record { moment = refl; accounts = refl }

stays_said : (position line : ℕ) (to text : List ℕ) (private : Bool) (o : Option DeviceState) (w : ByteWorld) → Stays (said_by position line to text private o w) w
stays_said position line to text private None w = stays w
stays_said position line to text private (Some d) w = record { moment = refl; accounts = refl }

stays_caught_up : (position line most : ℕ) (o : Option DeviceState) (w : ByteWorld) → Stays (caught_up_by position line most o w) w
stays_caught_up position line most None w = stays w
stays_caught_up position line most (Some d) w = record { moment = refl; accounts = refl }

stays_served : (position : ℕ) (count : Count) (o : Option Wire) (w : ByteWorld) → Stays (served_by position count o w) w
stays_served position count None w = stays w
stays_served position count (Some wire) w =
    stays_if (amount count wire.up == 0) w (served position (amount count wire.up) wire w) w (stays w) (record { moment = refl; accounts = refl })

stays_told : (position : ℕ) (o : Option Wire) (w : ByteWorld) → Stays (reported_up position o w) w
stays_told position None w = stays w
stays_told position (Some wire) w =
    stays_if (is_end_due wire.up) (record w { server = after_gone (number_at position) w.moment w.server; wires = slice_set w.wires position (up_end_reported wire) }) w w
    (record { moment = refl; accounts = refl }) (stays w)

stays_up : (position : ℕ) (count : Count) (w : ByteWorld) → Stays (moved (moves.Up position count) w) w
stays_up position count w =
    let v = served_by position count (slice_get w.wires position) w in
    stays_on (moved (moves.Up position count) w) v w (stays_told position (slice_get v.wires position) v) (stays_served position count (slice_get w.wires position) w)

stays_down_to : (position : ℕ) (count : Count) (wire : Wire) (o : Option DeviceState) (w : ByteWorld) → Stays (down_to position count wire o w) w
stays_down_to position count wire None w = stays w
stays_down_to position count wire (Some d) w = record { moment = refl; accounts = refl }

stays_down : (position : ℕ) (count : Count) (o : Option Wire) (w : ByteWorld) → Stays (down_by position count o w) w
stays_down position count None w = stays w
stays_down position count (Some wire) w = stays_down_to position count wire (slice_get w.devices wire.device) w

-- ---- turns

stays_pass : (position : ℕ) (w : ByteWorld) → Stays (all_moved (pass_of position) w) w
stays_pass position w =
    let v = moved (moves.Up position All) w in
    stays_on (moved (moves.Down position All) v) v w (stays_down position All (slice_get v.wires position) v) (stays_up position All w)

stays_join : (a b : List Move) (w : ByteWorld) → Stays (all_moved b (all_moved a w)) w → Stays (all_moved (a ++ b) w) w
stays_join a b w is = subst (λ v. Stays v w) (sym (moved_join a b w)) is

stays_passes : (times position : ℕ) (w : ByteWorld) → Stays (all_moved (passes_of times position) w) w
stays_passes zero position w = stays w
stays_passes (suc times) position w =
    let v = all_moved (pass_of position) w in
    stays_join (pass_of position) (passes_of times position) w (stays_on (all_moved (passes_of times position) v) v w (stays_passes times position v) (stays_pass position w))

stays_round : (position count : ℕ) (w : ByteWorld) → Stays (all_moved (round_from position count) w) w
stays_round position zero w = stays w
stays_round position (suc count) w =
    let v = all_moved (pass_of position) w in
    stays_join (pass_of position) (round_from (position + 1) count) w (stays_on (all_moved (round_from (position + 1) count) v) v w (stays_round (position + 1) count v) (stays_pass position w))

stays_rounds : (times count : ℕ) (w : ByteWorld) → Stays (all_moved (rounds_of times count) w) w
stays_rounds zero count w = stays w
stays_rounds (suc times) count w =
    let v = all_moved (round_from 0 count) w in
    stays_join (round_from 0 count) (rounds_of times count) w (stays_on (all_moved (rounds_of times count) v) v w (stays_rounds times count v) (stays_round 0 count w))

stays_passes_where : (times : ℕ) (o : Option ℕ) (w : ByteWorld) → Stays (all_moved (passes_where times o) w) w
stays_passes_where times None w = stays w
stays_passes_where times (Some position) w = stays_passes times position w

-- ---- lines

-- the clock moves on by at most so many milliseconds
pub record Passes (milliseconds : ℕ) (v w : ByteWorld) : Type 0 where
  pub moment : v.moment ≤ w.moment + milliseconds
  accounts : v.accounts ≡ w.accounts

passes : (milliseconds : ℕ) (v w : ByteWorld) → Stays v w → Passes milliseconds v w
passes milliseconds v w is = record { moment = omega (arith, is.moment); accounts = is.accounts }

by_move : (f : ℕ → Move) (o : Option ℕ) (w : ByteWorld) → ((position : ℕ) → Stays (moved (f position) w) w) → Stays (all_moved (move_of f o) w) w
by_move f None w each = stays w
by_move f (Some position) w each = each position

passes_common : (s : Step) (n : ℕ) (w : ByteWorld) → Passes (ticked_of (wire.Common s)) (all_moved (common_moves w.names n s) w) w
passes_common (step.Account name) n w = passes 0 w w (stays w)
passes_common (step.Device name account) n w = passes 0 w w (stays w)
passes_common (step.Say device to text) n w =
    passes 0 _ w (by_move (λ position. moves.Say position n to text false) (position_of device w.names) w (λ position. stays_said position n to text false (slice_get w.devices position) w))
passes_common (step.Private device to text) n w =
    passes 0 _ w (by_move (λ position. moves.Say position n to text true) (position_of device w.names) w (λ position. stays_said position n to text true (slice_get w.devices position) w))
passes_common (step.Catchup device most) n w =
    passes 0 _ w (by_move (λ position. moves.CatchUp position n most) (position_of device w.names) w (λ position. stays_caught_up position n most (slice_get w.devices position) w))
passes_common (step.Tick milliseconds) n w = record { moment = omega arith; accounts = refl }

pub passes_line : (s : WireStep) (n : ℕ) (w : ByteWorld) → Passes (ticked_of s) (all_moved (step_moves w.names (length w.wires) n s) w) w
passes_line (wire.Common s) n w = passes_common s n w
passes_line (wire.Dial device) n w =
    passes 0 _ w (by_move moves.Dial (position_of device w.names) w (λ position. stays_dialed position (slice_get w.devices position) w))
passes_line (wire.Forget device) n w =
    passes 0 _ w (by_move moves.Forget (position_of device w.names) w (λ position. stays_forgot position (slice_get w.devices position) w))
passes_line (wire.Close device) n w =
    passes 0 _ w (by_move moves.Close (position_of device w.names) w (λ position. stays_closed position (slice_get w.devices position) w))
passes_line (wire.Up k count) n w =
    passes 0 _ w (by_move (λ position. moves.Up position count) (position_under k) w (λ position. stays_up position count w))
passes_line (wire.Down k count) n w =
    passes 0 _ w (by_move (λ position. moves.Down position count) (position_under k) w (λ position. stays_down position count (slice_get w.wires position) w))
passes_line (wire.Cut k up down) n w =
    passes 0 _ w (by_move (λ position. moves.Cut position up down) (position_under k) w (λ position. record { moment = refl; accounts = refl }))
passes_line (wire.Pass k times) n w = passes 0 _ w (stays_passes_where times (position_under k) w)
passes_line (wire.Run times) n w = passes 0 _ w (stays_rounds times (length w.wires) w)

-- ---- what is asked of a line

may_ask : (s : Step) (above : WireAbove) (w : ByteWorld) → IsTrue (may_run above (wire.Common s)) → w.moment ≤ 253402207200000 → MayAsk s w
may_ask (step.Account name) above w may early = tt
may_ask (step.Device name account) above w may early = tt
may_ask (step.Say device to text) above w may early =
    (and_parts (is_among device above.names.devices) (is_name to) (and_parts (is_among device above.names.devices && is_name to) (is_text text) may).0).1
may_ask (step.Private device to text) above w may early =
    (and_parts (is_among device above.names.devices) (is_name to) (and_parts (is_among device above.names.devices && is_name to) (is_text text) may).0).1
may_ask (step.Catchup device most) above w may early =
    let a = and_parts (is_among device above.names.devices && nat_le 1 most) (nat_le most 100) may in
    let b = and_parts (is_among device above.names.devices) (nat_le 1 most) a.0 in
    (leb-true 1 most b.1, leb-true most 100 a.1)
may_ask (step.Tick milliseconds) above w may early =
    let few : milliseconds ≤ 1000000000 = leb-true milliseconds MOST_TICK may in
    omega (arith, few, early)

pub may_step : (s : WireStep) (above : WireAbove) (w : ByteWorld) → IsTrue (may_run above s) → w.moment ≤ 253402207200000 → MayStep s w
may_step (wire.Common s) above w may early = may_ask s above w may early
may_step (wire.Dial device) above w may early = tt
may_step (wire.Forget device) above w may early = tt
may_step (wire.Close device) above w may early = tt
may_step (wire.Up k count) above w may early = tt
may_step (wire.Down k count) above w may early = tt
may_step (wire.Cut k up down) above w may early = tt
may_step (wire.Pass k times) above w may early = tt
may_step (wire.Run times) above w may early = tt

may_all : (lines : List WireLine) (above : WireAbove) (w : ByteWorld) → AreListed above lines → w.moment + ticked_in lines ≤ 253402207200000 → MayAllStep lines w
may_all [] above w are early = tt
may_all (line ∷ lines) above w are early =
    let next = passes_line line.step line.number w in
    let soon : w.moment + (ticked_of line.step + ticked_in lines) ≤ 253402207200000 = early in (
      may_step line.step above w are.1 (omega (arith, soon)),
      may_all lines (above_by line.step above) (stepped line w) are.3 (omega (arith, soon, next.moment)),
    )

-- ---- a list of lines

runnable : (lines : List WireLine) (above : WireAbove) → AreListed above lines → AreRunnable above (wire_steps_of lines)
runnable [] above are = tt
runnable (line ∷ lines) above are = (are.1, runnable lines (above_by line.step above) are.3)

pub may_run_all : (schedule : WireView) → IsLineList schedule → AreRunnable nothing_above (wire_steps_of schedule.lines)
may_run_all schedule is = runnable schedule.lines nothing_above is.lines

pub numbered_start : (schedule : WireView) (w : ByteWorld) → w ≡ world_at_start schedule → IsNumbered w
numbered_start schedule w same = subst IsNumbered (sym same) (tt, tt)

pub may_follow : (schedule : WireView) (w : ByteWorld) → IsLineList schedule → w ≡ world_at_start schedule → MayAllStep schedule.lines w
may_follow schedule w is same =
    subst (MayAllStep schedule.lines) (sym same) (may_all schedule.lines nothing_above (world_at_start schedule) is.lines (let ticked : ticked_in schedule.lines ≤ 253402207200000 = is.ticked in omega (arith, ticked)))

accounts_stay : (lines : List WireLine) (w : ByteWorld) → (all_stepped lines w).accounts ≡ w.accounts
accounts_stay [] w = refl
accounts_stay (line ∷ lines) w = accounts_stay lines (stepped line w) ∙ (passes_line line.step line.number w).accounts

pub few_accounts : (schedule : WireView) (w : ByteWorld) → IsLineList schedule → w ≡ all_stepped schedule.lines (world_at_start schedule) → length w.accounts ≤ 100
few_accounts schedule w is same =
    let accounts : w.accounts ≡ accounts_of (common_steps schedule) = ap (λ (v : ByteWorld). v.accounts) same ∙ accounts_stay schedule.lines (world_at_start schedule) in
    let few : length (accounts_of (common_steps schedule)) ≤ 100 = are_few (accounts_of (common_steps schedule)) (are_accounts schedule (may_run_all schedule is)) in
    rw accounts few

-- ---- a schedule

pub may_run_schedule : (schedule : WireView) → IsWireSchedule schedule → AreRunnable nothing_above (wire_steps_of schedule.lines)
may_run_schedule schedule is = may_run_all schedule (listed schedule is)

pub may_follow_schedule : (schedule : WireView) (w : ByteWorld) → IsWireSchedule schedule → w ≡ world_at_start schedule → MayAllStep schedule.lines w
may_follow_schedule schedule w is same = may_follow schedule w (listed schedule is) same

pub few_in_schedule : (schedule : WireView) (w : ByteWorld) → IsWireSchedule schedule → w ≡ all_stepped schedule.lines (world_at_start schedule) → length w.accounts ≤ 100
few_in_schedule schedule w is same = few_accounts schedule w (listed schedule is) same

-- ---- the report

pub reported : {E : Type 0} (schedule : WireView) (lines : List WireLine) (v w : ByteWorld) (r : Result ReportView E) → v ≡ world_at_start schedule → lines ≡ schedule.lines
    → w ≡ all_stepped lines v → IfOk r (λ report. report ≡ report_of w) → IfOk r (λ report. report ≡ report_of (world_of schedule))
unfolding world_of
reported schedule lines v w r start same done is =
    let whole : w ≡ world_of schedule = done ∙ ap (λ ls. all_stepped ls v) same ∙ ap (all_stepped schedule.lines) start in
    subst (λ (u : ByteWorld). IfOk r (λ report. report ≡ report_of u)) whole is
