-- From each world of a history to the next moves of the links of each device lead, in which its client does what it notes down
-- in the move between them.
use Rattle.std.proofs.Common.{◌≡◌, ℕ, zero, suc, List, [], ◌∷◌, ◌++◌, Some, refl, sym, ap, ap₂, ◌∙◌, subst}
use Rattle.std.proofs.lemmas.Option.{none-some, same_Some}
use Rattle.std.specs.List.{flat_map, slice_get}
use Rattle.cmd_schedule.specs.Schedules.{WireView}
use Rattle.cmd_schedule.specs.LineLists.{IsLineList}
use Rattle.cmd_schedule.specs.declared.schedule.WireLine.{WireLine}
use Rattle.sim_1_applications.specs.Devices as sessions
use Rattle.sim_1_applications.specs.Events.{AppEvent}
use Rattle.sim_1_applications.specs.Histories.{state_after}
use Rattle.sim_1_applications.specs.Runs.{LineRun, begins}
use Rattle.sim_7_schedules.proofs.WholeRuns.{whole_run}
use Rattle.sim_7_schedules.specs.Courses.{moves_along, moves_in}
use Rattle.sim_7_schedules.specs.Simulation.{AllLead, LabelsAreNotedIn, LinesSimulate, MovesSimulate, SimulatesBy, Views, views_of}
use Rattle.cmd_world.specs.Histories.{history_of, world_at_start, worlds_along, worlds_by}
use Rattle.cmd_world.specs.Lines.{moves_of, stepped}
use Rattle.cmd_world.specs.Moves.{Move, all_moved, moved}
use Rattle.cmd_world.specs.Worlds.{ByteWorld}

-- ---- the worlds of a history are those behind its moves

worlds_joined : (first second : List Move) (w : ByteWorld) → worlds_by (first ++ second) w ≡ worlds_by first w ++ worlds_by second (all_moved first w)
worlds_joined [] second w = refl
worlds_joined (m ∷ first) second w = ap (λ l. moved m w ∷ l) (worlds_joined first second (moved m w))

worlds_are : (lines : List WireLine) (w : ByteWorld) → worlds_along lines w ≡ worlds_by (moves_along lines w) w
worlds_are [] w = refl
worlds_are (line ∷ lines) w = ap (λ l. worlds_by (moves_of line w) w ++ l) (worlds_are lines (stepped line w)) ∙ sym (worlds_joined (moves_of line w) (moves_along lines (stepped line w)) w)

-- ---- steps

abbrev pub Steps : (s : WireView) → ByteWorld → Views s → List Move → Type 0
Steps s V views [] = Unit {0}
Steps s V views (m ∷ ms) = (y : sessions.AppWorld) × (next : Views s) × SimulatesBy s (moved m V) y next × AllLead s (LabelsAreNotedIn m V) views next × Steps s (moved m V) next ms

steps_of_moves : (s : WireView) (ms rest : List Move) (ess : List (List AppEvent)) (views last : Views s) (W : ByteWorld) (x : sessions.AppWorld) → MovesSimulate s ms ess views last W x → Steps s (all_moved ms W) last rest → Steps s W views (ms ++ rest)
steps_of_moves s [] rest [] views last W x go more = subst (λ (v : Views s). Steps s W v rest) go more
steps_of_moves s [] rest (es ∷ ess) views last W x go more = absurd go
steps_of_moves s (m ∷ ms) rest [] views last W x go more = absurd go
steps_of_moves s (m ∷ ms) rest (es ∷ ess) views last W x go more = (state_after x es, go.0, go.1, go.2, steps_of_moves s ms rest ess go.0 last (moved m W) (state_after x es) go.3 more)

steps_of_lines : (s : WireView) (lines : List WireLine) (runs : List LineRun) (views : Views s) (W : ByteWorld) (x : sessions.AppWorld) → LinesSimulate s lines runs views W x → Steps s W views (moves_along lines W)
steps_of_lines s [] [] views W x go = tt
steps_of_lines s [] (run ∷ runs) views W x go = absurd go
steps_of_lines s (line ∷ lines) [] views W x go = absurd go
steps_of_lines s (line ∷ lines) (run ∷ runs) views W x go =
    steps_of_moves s (moves_of line W) (moves_along lines (stepped line W)) run.moves views go.1 W x go.2
    (steps_of_lines s lines runs go.1 (stepped line W) (state_after x (flat_map (λ one. one) run.moves)) go.3)

-- ---- one world, and the next

abbrev pub HasViews : WireView → ByteWorld → Type 0
HasViews s W = (x : sessions.AppWorld) × (views : Views s) × SimulatesBy s W x views

abbrev pub world_at : (s : WireView) (V : ByteWorld) (first : HasViews s V) (ms : List Move) → Steps s V first.1 ms → (j : ℕ) (W : ByteWorld) → slice_get (V ∷ worlds_by ms V) j ≡ Some W → HasViews s W
world_at s V first ms steps zero W at = (first.0, first.1, subst (λ U. SimulatesBy s U first.0 first.1) (same_Some V W at) first.2)
world_at s V first [] steps (suc j) W at = absurd (none-some W at)
world_at s V first (m ∷ ms) steps (suc j) W at = world_at s (moved m V) (steps.0, steps.1, steps.2) ms steps.4 j W at

pub leads_between : (s : WireView) (V : ByteWorld) (first : HasViews s V) (ms : List Move) (steps : Steps s V first.1 ms) (j : ℕ) (U W : ByteWorld) (m : Move) (one : slice_get (V ∷ worlds_by ms V) j ≡ Some U) (two : slice_get (V ∷ worlds_by ms V) (suc j) ≡ Some W) → slice_get ms j ≡ Some m
    → AllLead s (LabelsAreNotedIn m U) (world_at s V first ms steps j U one).1 (world_at s V first ms steps (suc j) W two).1
leads_between s V first [] steps j U W m one two at = absurd (none-some m at)
leads_between s V first (n ∷ ms) steps zero U W m one two at =
    subst (λ (u : ByteWorld). AllLead s (LabelsAreNotedIn m u) first.1 steps.1) (same_Some V U one) (subst (λ (k : Move). AllLead s (LabelsAreNotedIn k V) first.1 steps.1) (same_Some n m at) steps.3)
leads_between s V first (n ∷ ms) steps (suc j) U W m one two at = leads_between s (moved n V) (steps.0, steps.1, steps.2) ms steps.4 j U W m one two at

-- where there is a next world there is a move
pub move_there : (V : ByteWorld) (ms : List Move) (j : ℕ) (W : ByteWorld) → slice_get (V ∷ worlds_by ms V) (suc j) ≡ Some W → (m : Move) × (slice_get ms j ≡ Some m)
move_there V [] j W at = absurd (none-some W at)
move_there V (m ∷ ms) zero W at = (m, refl)
move_there V (m ∷ ms) (suc j) W at = move_there (moved m V) ms j W at

pub moved_there : (V : ByteWorld) (ms : List Move) (j : ℕ) (U W : ByteWorld) (m : Move) → slice_get (V ∷ worlds_by ms V) j ≡ Some U → slice_get (V ∷ worlds_by ms V) (suc j) ≡ Some W → slice_get ms j ≡ Some m → W ≡ moved m U
moved_there V [] j U W m one two at = absurd (none-some m at)
moved_there V (n ∷ ms) zero U W m one two at = sym (same_Some (moved n V) W two) ∙ ap₂ moved (same_Some n m at) (same_Some V U one)
moved_there V (n ∷ ms) (suc j) U W m one two at = moved_there (moved n V) ms j U W m one two at

-- ---- of a list of lines

pub history_is : (s : WireView) → history_of s ≡ world_at_start s ∷ worlds_by (moves_in s) (world_at_start s)
history_is s = ap (λ l. world_at_start s ∷ l) (worlds_are s.lines (world_at_start s))

abbrev pub first_of : (s : WireView) → IsLineList s → HasViews s (world_at_start s)
first_of s right = let runs = whole_run s right in (begins s, views_of runs.first.runs, record { beside = runs.first; shown = λ i o is. refl })

pub steps_in : (s : WireView) (right : IsLineList s) → Steps s (world_at_start s) (first_of s right).1 (moves_in s)
steps_in s right = let runs = whole_run s right in steps_of_lines s s.lines runs.runs (views_of runs.first.runs) (world_at_start s) (begins s) runs.go
