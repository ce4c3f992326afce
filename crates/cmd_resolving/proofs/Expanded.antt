-- The world that a file of intents comes to is that of the lines that it stands for.
use Rattle.std.proofs.Common.{◌≡◌, ℕ, List, [], ◌∷◌, Option, Some, None, length, map, refl, sym, ap, ◌∙◌}
use Rattle.std.proofs.lemmas.List.{map-append}
use Rattle.cl_intents.specs.declared.intents.Try.{Try}
use Rattle.cmd_network.specs.Positions.{position_under}
use Rattle.cmd_schedule.specs.declared.schedule.WireLine.{WireLine}
use Rattle.cmd_schedule.specs.declared.schedule.WireStep.{WireStep}
use Rattle.cmd_schedule.specs.declared.schedule.WireStep.TheVariants as wire
use Rattle.cmd_world.specs.Histories.{world_at_start}
use Rattle.cmd_world.specs.Lines.{all_stepped, passes_where, rounds_of, stepped, step_moves}
use Rattle.cmd_world.specs.Moves.{Move, all_moved}
use Rattle.cmd_world.specs.Worlds.{ByteWorld}
use Rattle.cmd_world.proofs.AllMoves.{stepped_append}
use Rattle.cmd_resolving.specs.Expansion.{Asked, RunLine, Submitted, Watching, all_done, all_gone, all_lines, asked, begun, done, expand, gone, gone_by, lines_by, lines_of, noted, noted_try, try_of, watched, watched_end, watched_line, watched_move, watched_step, watching_at_start}
use Rattle.cmd_intents.specs.Files.{FileView}

abbrev pub line_in : RunLine → WireLine
line_in l = l.line

watched_world : (moves : List Move) (s : Watching) → (watched moves s).world ≡ all_moved moves s.world
watched_world [] s = refl
watched_world (m ∷ moves) s = watched_world moves (watched_move m s)

abbrev all_step_moves : WireStep → ℕ → ByteWorld → ByteWorld
all_step_moves step number w = all_moved (step_moves w.names (length w.wires) number step) w

-- by its step
followed_by : (step : WireStep) (line : WireLine) (s : Watching) → line.step ≡ step → (watched_step step line s).world ≡ stepped line s.world
followed_by (wire.Pass conn times) line s is =
    watched_world (passes_where times (position_under conn)) s ∙ sym (ap (λ st. all_step_moves st line.number s.world) is)
followed_by (wire.Run times) line s is = watched_world (rounds_of times (length s.world.wires)) s ∙ sym (ap (λ st. all_step_moves st line.number s.world) is)
followed_by (wire.Common step) line s is = refl
followed_by (wire.Dial device) line s is = refl
followed_by (wire.Forget device) line s is = refl
followed_by (wire.Close device) line s is = refl
followed_by (wire.Up conn bytes) line s is = refl
followed_by (wire.Down conn bytes) line s is = refl
followed_by (wire.Cut conn up down) line s is = refl

pub followed_world : (line : WireLine) (s : Watching) → (watched_line line s).world ≡ stepped line s.world
followed_world line s = followed_by line.step line s refl

noted_world : (at : Option Submitted) (line : WireLine) (before : ByteWorld) (s : Watching) → (noted at line before s).world ≡ s.world
noted_world None line before s = refl
noted_world (Some at) line before s = by_try (try_of line at.device before)
  where
    by_try : (t : Option Try) → (noted_try at t s).world ≡ s.world
    by_try None = refl
    by_try (Some t) = refl

pub done_world : (l : RunLine) (s : Watching) → (done l s).world ≡ stepped l.line s.world
done_world l s = noted_world l.submits l.line s.world (watched_line l.line s) ∙ followed_world l.line s

pub all_done_world : (ls : List RunLine) (s : Watching) → (all_done ls s).world ≡ all_stepped (map line_in ls) s.world
all_done_world [] s = refl
all_done_world (l ∷ ls) s = all_done_world ls (done l s) ∙ ap (all_stepped (map line_in ls)) (done_world l s)

begun_world : (a : Asked) (s : Watching) → (begun a s).world ≡ s.world
begun_world Asked.Plain s = refl
begun_world (Asked.NewIntent index to text) s = refl
begun_world (Asked.Resolve device index most) s = refl
begun_world Asked.Nothing s = refl

pub gone_by_world : (a : Asked) (line : WireLine) (s : Watching) → (gone_by a line s).world ≡ all_stepped (map line_in (lines_by a line (begun a s))) s.world
gone_by_world a line s = all_done_world (lines_by a line (begun a s)) (begun a s) ∙ ap (all_stepped (map line_in (lines_by a line (begun a s)))) (begun_world a s)

pub gone_world : (f : FileView) (line : WireLine) (s : Watching) → (gone f line s).world ≡ all_stepped (map line_in (lines_of f line s)) s.world
gone_world f line s = gone_by_world (asked f s.world.names line) line s

all_gone_world : (f : FileView) (lines : List WireLine) (s : Watching) → (all_gone f lines s).world ≡ all_stepped (map line_in (all_lines f lines s)) s.world
all_gone_world f [] s = refl
all_gone_world f (line ∷ lines) s =
    let first = lines_of f line s in
    let rest = all_lines f lines (gone f line s) in
    all_gone_world f lines (gone f line s)
    ∙ ap (all_stepped (map line_in rest)) (gone_world f line s)
    ∙ sym (stepped_append (map line_in first) (map line_in rest) s.world)
    ∙ ap (λ ls. all_stepped ls s.world) (sym (map-append line_in first rest))

pub expanded_world : (f : FileView) → (watched_end f).world ≡ all_stepped (expand f) (world_at_start f.schedule)
unfolding watched_end expand
expanded_world f = all_gone_world f f.schedule.lines (watching_at_start f)
