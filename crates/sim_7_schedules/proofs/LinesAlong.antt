-- Lines, one after another, as events of the applications.
use Rattle.std.proofs.Common.{◌≡◌, ℕ, ◌+◌, ◌≤◌, List, [], ◌∷◌, length, refl, sym, subst, arith}
use Rattle.std.proofs.lemmas.List.Concat.{flat_map-append}
use Rattle.std.specs.List.{flat_map}
use Rattle.std.specs.Prelude.{IsTrue}
use Rattle.sim_5_devices.proofs.AllSessionSteps.{reaches_both}
use Rattle.sim_3_items.specs.ItemWorlds.{ItemWorld}
use Rattle.sim_7_schedules.specs.Refusals.{AreLinesRefused, all_refusals}
use Rattle.sim_7_schedules.proofs.LineCounts.{counted, may_say}
use Rattle.sim_7_schedules.proofs.LineEvents.{LineDoes, line_does}
use Rattle.sim_7_schedules.proofs.LineMoments.{line_moment}
use Rattle.sim_7_schedules.proofs.LineSays.{said_by_step, said_few}
use Rattle.cmd_schedule.specs.Schedules.{WireView}
use Rattle.cmd_schedule.specs.LineLists.{AreListed, counted_in, counted_of, ticked_in, ticked_of}
use Rattle.cmd_schedule.specs.WireGrammar.{WireAbove, above_by, are_few, may_run}
use Rattle.cmd_schedule.specs.declared.schedule.WireLine.{WireLine}
use Rattle.sim_7_schedules.proofs.ByteMoves.{IsTimely}
use Rattle.sim_7_schedules.proofs.LineUnits.{dials_of, units_of}
use Rattle.sim_7_schedules.proofs.Rounds.{AtMost}
use Rattle.sim_7_schedules.specs.Simulation.{EachMoveSimulates, IsEncoded, LinesSimulate, Views, bounds, views_of}
use Rattle.sim_1_applications.specs.Devices.{AppWorld}
use Rattle.sim_1_applications.specs.Events.{Reaches}
use Rattle.sim_1_applications.specs.Histories.{spoken_in}
use Rattle.sim_1_applications.proofs.Moments.{reaches_is}
use Rattle.sim_1_applications.specs.Runs.{LineRun, events_in, moves_of}
use Rattle.cmd_world.specs.Lines as lines
use Rattle.cmd_world.specs.Lines.{stepped}
use Rattle.cmd_world.specs.Worlds as worlds
use Rattle.sim_5_moves.specs.Running.{WorldSimulates}

-- ---- before a line

-- The worlds before these lines, below what stands above them. What has come to pass and what these lines may come to are
-- within the bounds together: messages, pages but for those of turns, and milliseconds.
pub record IsBefore (schedule : WireView) (above : WireAbove) (rest : List WireLine) (W : worlds.ByteWorld) (x : AppWorld) : Type 0 where
  pub says : ℕ
  pub pages : ℕ
  pub items : ItemWorld
  pub encodes : IsEncoded W items
  pub runs : WorldSimulates schedule bounds says items x
  pub most : AtMost pages x
  pub said : says + counted_in rest ≤ 10000000
  pub few : pages + counted_in rest ≤ 10000000 + above.times
  pub times : above.times ≤ 100000
  pub dials : above.dials ≤ 10000
  pub many : length W.wires ≤ above.dials
  pub moment : W.moment + ticked_in rest ≤ 253402207200000

timely : (more : ℕ) (W : worlds.ByteWorld) → W.moment + more ≤ 253402207200000 → IsTimely W
timely more W low = let far : W.moment ≤ 253402207200000 = omega (arith, low) in far

-- ---- lines

-- what was said at each of them
abbrev pub AreSpoken : List WireLine → List LineRun → worlds.ByteWorld → Type 0
AreSpoken [] [] W = Unit {0}
AreSpoken (line ∷ rest) (r ∷ rs) W = (r.line ≡ line) × (spoken_in (events_in r) ≡ said_by_step W line.step) × AreSpoken rest rs (stepped line W)
AreSpoken _ _ W = ⊥

pub record LinesGo (schedule : WireView) (from : Views schedule) (rest : List WireLine) (W : worlds.ByteWorld) (x : AppWorld) : Type 0 where
  pub runs : List LineRun
  pub last : AppWorld
  pub go : LinesSimulate schedule rest runs from W x
  pub reaches : Reaches (flat_map (λ move. move) (moves_of runs)) x last
  pub refused : AreLinesRefused rest runs W
  pub spoken : AreSpoken rest runs W

module _ (schedule : WireView) (each : EachMoveSimulates schedule) where
  -- what is asked of a line holds, by the bounds
  one_line : (above : WireAbove) (line : WireLine) (rest : List WireLine) (W : worlds.ByteWorld) (x : AppWorld) → IsTrue (may_run above line.step) → IsTrue (are_few above line.step) → (before : IsBefore schedule above (line ∷ rest) W x) →
      LineDoes schedule (views_of before.runs) before.says before.pages (dials_of line.step) (units_of line.step) (said_by_step W line.step) (lines.moves_of line W) W x
  one_line above line rest W x may few before =
      let c = counted above before.dials before.times line.step few in
      let said : before.says + (counted_of line.step + counted_in rest) ≤ 10000000 = before.said in
      let pages : before.pages + (counted_of line.step + counted_in rest) ≤ 10000000 + above.times = before.few in
      let units = c.units in
      let times = c.few_times in
      let many = before.many in
      let same = c.dials in
      let dials = c.few_dials in
      line_does schedule each line.step line.number before.says before.pages W before.items x (may_say above line.step may) (omega (arith, said)) (omega (arith, pages, units, times)) (omega (arith, many, same, dials))
      (timely (ticked_in (line ∷ rest)) W before.moment) before.encodes before.runs before.most

  abbrev next_line : (above : WireAbove) (line : WireLine) (rest : List WireLine) (W : worlds.ByteWorld) (x : AppWorld) → IsTrue (are_few above line.step) → (before : IsBefore schedule above (line ∷ rest) W x) →
      (d : LineDoes schedule (views_of before.runs) before.says before.pages (dials_of line.step) (units_of line.step) (said_by_step W line.step) (lines.moves_of line W) W x) → IsBefore schedule (above_by line.step above) rest (stepped line W) d.goes.next
  next_line above line rest W x few before d =
      let c = counted above before.dials before.times line.step few in
      let was : before.says + (counted_of line.step + counted_in rest) ≤ 10000000 = before.said in
      let asked : before.pages + (counted_of line.step + counted_in rest) ≤ 10000000 + above.times = before.few in
      let soon : W.moment + (ticked_of line.step + ticked_in rest) ≤ 253402207200000 = before.moment in
      record {
        says = d.after;
        pages = before.pages + units_of line.step;
        items = d.goes.items;
        encodes = d.goes.encodes;
        runs = d.goes.runs;
        most = d.goes.post;
        said = (let more = d.few in let one = said_few W line.step in omega (arith, more, one, was));
        few = (let more = c.units in omega (arith, more, asked));
        times = c.few_times;
        dials = c.few_dials;
        many = (let wide = d.goes.wide in let shown = d.goes.encodes.encoding.as_many in let there = before.many in let same = c.dials in omega (arith, wide, shown, there, same));
        moment = (let more = line_moment W.names (length W.wires) line.number W line.step in omega (arith, soon, more));
      }

  pub lines_go : (rest : List WireLine) (above : WireAbove) (W : worlds.ByteWorld) (x : AppWorld) → AreListed above rest → (before : IsBefore schedule above rest W x) → LinesGo schedule (views_of before.runs) rest W x
  lines_go [] above W x are before = record { runs = []; last = x; go = tt; reaches = refl; refused = tt; spoken = tt }
  lines_go (line ∷ rest) above W x are before =
      let d = one_line above line rest W x are.1 are.2 before in
      let more = lines_go rest (above_by line.step above) (stepped line W) d.goes.next are.3 (next_line above line rest W x are.2 before d) in
      record {
        runs = record { line = line; moves = d.goes.moves; refused = all_refusals (lines.moves_of line W) W } ∷ more.runs;
        last = more.last;
        go = (refl, views_of d.goes.runs, d.goes.beside, subst (LinesSimulate schedule rest more.runs (views_of d.goes.runs) (stepped line W)) (reaches_is (flat_map (λ one. one) d.goes.moves) x d.goes.next d.goes.led) more.go);
        reaches = subst (λ es. Reaches es x more.last) (sym (flat_map-append (λ one. one) d.goes.moves (moves_of more.runs)))
            (reaches_both (flat_map (λ one. one) d.goes.moves) (flat_map (λ one. one) (moves_of more.runs)) x d.goes.next more.last d.goes.led more.reaches);
        refused = (refl, refl, more.refused);
        spoken = (refl, d.goes.spoken, more.spoken);
      }
