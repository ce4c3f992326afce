-- The links of the devices along the moves of the last line of a list.
use Rattle.std.proofs.Common.{◌≡◌, ℕ, List, [], ◌∷◌, ◌++◌, length, refl, sym, ap, ◌∙◌, subst}
use Rattle.std.specs.List.{flat_map}
use Rattle.cmd_schedule.specs.LineLists.{IsLineList}
use Rattle.cmd_schedule.specs.Schedules.{WireView}
use Rattle.cmd_schedule.specs.declared.schedule.WireLine.{WireLine}
use Rattle.cmd_world.specs.Histories.{world_at_start, world_of}
use Rattle.cmd_world.specs.Lines.{all_stepped, moves_of, rounds_of, step_moves, stepped}
use Rattle.cmd_world.specs.Moves.{Move, all_moved, moved}
use Rattle.cmd_world.specs.Worlds.{ByteWorld}
use Rattle.sim_7_schedules.specs.LastLines.{EndsInRun, world_behind}
use Rattle.sim_1_applications.specs.Devices.{AppWorld}
use Rattle.sim_1_applications.specs.Events.{AppEvent}
use Rattle.sim_1_applications.specs.Histories.{state_after}
use Rattle.sim_1_applications.specs.Runs.{LineRun, begins}
use Rattle.sim_7_schedules.proofs.ByteMoves.{state_joined}
use Rattle.sim_7_schedules.proofs.WholeRuns.{whole_run}
use Rattle.sim_7_schedules.specs.Simulation.{LinesSimulate, MovesSimulate, SimulatesBy, Views, views_of}

-- ---- moves, and then others

abbrev pub joined : List (List AppEvent) → List AppEvent
joined ess = flat_map (λ one. one) ess

-- behind moves the worlds are related still
pub moves_end : (s : WireView) (ms : List Move) (ess : List (List AppEvent)) (views last : Views s) (W : ByteWorld) (x : AppWorld) → SimulatesBy s W x views → MovesSimulate s ms ess views last W x → SimulatesBy s (all_moved ms W) (state_after x (joined ess)) last
moves_end s [] [] views last W x by go = subst (λ (v : Views s). SimulatesBy s W x v) (sym go) by
moves_end s [] (es ∷ ess) views last W x by go = absurd go
moves_end s (m ∷ ms) [] views last W x by go = absurd go
moves_end s (m ∷ ms) (es ∷ ess) views last W x by go =
    subst (λ u. SimulatesBy s (all_moved ms (moved m W)) u last) (sym (state_joined x es (joined ess))) (moves_end s ms ess go.0 last (moved m W) (state_after x es) go.1 go.3)

pub record Parts (s : WireView) (ms more : List Move) (views last : Views s) (W : ByteWorld) (x : AppWorld) : Type 0 where
  pub mid : Views s
  pub applications : AppWorld
  pub events : List (List AppEvent)
  pub events_then : List (List AppEvent)
  pub go : MovesSimulate s ms events views mid W x
  pub by : SimulatesBy s (all_moved ms W) applications mid
  pub go_then : MovesSimulate s more events_then mid last (all_moved ms W) applications

pub parts : (s : WireView) (ms more : List Move) (ess : List (List AppEvent)) (views last : Views s) (W : ByteWorld) (x : AppWorld) → SimulatesBy s W x views → MovesSimulate s (ms ++ more) ess views last W x → Parts s ms more views last W x
parts s [] more ess views last W x by go = record { mid = views; applications = x; events = []; events_then = ess; go = refl; by = by; go_then = go }
parts s (m ∷ ms) more [] views last W x by go = absurd go
parts s (m ∷ ms) more (es ∷ ess) views last W x by go =
    let p = parts s ms more ess go.0 last (moved m W) (state_after x es) go.1 go.3 in
    record { mid = p.mid; applications = p.applications; events = es ∷ p.events; events_then = p.events_then; go = (go.0, go.1, go.2, p.go); by = p.by; go_then = p.go_then }

-- ---- the last line

-- moves beside events, from a world beside one of the applications
pub record Along (s : WireView) (ms : List Move) (W : ByteWorld) : Type 0 where
  pub applications : AppWorld
  pub events : List (List AppEvent)
  pub views : Views s
  pub last : Views s
  pub by : SimulatesBy s W applications views
  pub go : MovesSimulate s ms events views last W applications

last_line : (s : WireView) (before : List WireLine) (line : WireLine) (runs : List LineRun) (views : Views s) (W : ByteWorld) (x : AppWorld) → SimulatesBy s W x views → LinesSimulate s (before ++ line ∷ []) runs views W x → Along s (moves_of line (all_stepped before W)) (all_stepped before W)
last_line s [] line [] views W x by go = absurd go
last_line s [] line (run ∷ runs) views W x by go = record { applications = x; events = run.moves; views = views; last = go.1; by = by; go = go.2 }
last_line s (one ∷ before) line [] views W x by go = absurd go
last_line s (one ∷ before) line (run ∷ runs) views W x by go =
    last_line s before line runs go.1 (stepped one W) (state_after x (joined run.moves)) (moves_end s (moves_of one W) run.moves views go.1 W x by go.2) go.3

pub stepped_last : (before : List WireLine) (line : WireLine) (W : ByteWorld) → all_stepped (before ++ line ∷ []) W ≡ stepped line (all_stepped before W)
stepped_last [] line W = refl
stepped_last (one ∷ before) line W = stepped_last before line (stepped one W)

world_is : (s : WireView) (lines : List WireLine) → s.lines ≡ lines → world_of s ≡ world_behind s lines
unfolding world_of
world_is s lines e = ap (λ ls. all_stepped ls (world_at_start s)) e

abbrev pub run_moves : WireView → List WireLine → ℕ → List Move
run_moves s before n = rounds_of n (length (world_behind s before).wires)

moves_are : (s : WireView) (before : List WireLine) (n : ℕ) (ends : EndsInRun s before n) → moves_of ends.line (world_behind s before) ≡ run_moves s before n
moves_are s before n ends = ap (λ step. step_moves (world_behind s before).names (length (world_behind s before).wires) ends.line.number step) ends.step

pub run_along : (s : WireView) → IsLineList s → (before : List WireLine) (n : ℕ) → EndsInRun s before n → Along s (run_moves s before n) (world_behind s before)
run_along s right before n ends =
    let sr = whole_run s right in
    let go = subst (λ ls. LinesSimulate s ls sr.runs (views_of sr.first.runs) (world_at_start s) (begins s)) ends.lines sr.go in
    subst (λ ms. Along s ms (world_behind s before)) (moves_are s before n ends)
    (last_line s before ends.line sr.runs (views_of sr.first.runs) (world_at_start s) (begins s) (record { beside = sr.first; shown = λ i o is. refl }) go)

pub run_ends : (s : WireView) (before : List WireLine) (n : ℕ) → EndsInRun s before n → world_of s ≡ all_moved (run_moves s before n) (world_behind s before)
run_ends s before n ends =
    world_is s (before ++ ends.line ∷ []) ends.lines ∙ stepped_last before ends.line (world_at_start s) ∙ ap (λ ms. all_moved ms (world_behind s before)) (moves_are s before n ends)
