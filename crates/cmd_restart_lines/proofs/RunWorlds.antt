-- Where another server is started at each restart line, the world is that of the lines that the file stands for.
use Rattle.std.proofs.Common.{◌≡◌, ℕ, ◌+◌, ◌≤◌, Bool, true, false, List, [], ◌∷◌, length, refl, sym, ap, ◌∙◌, le_refl}
use Rattle.cmd_restarts.specs.Files.{FileView}
use Rattle.cmd_restarts.specs.RestartFiles.{IsRestartFile, is_next, without_next}
use Rattle.cmd_schedule.specs.declared.schedule.Step.TheVariants.{Tick as TickStep}
use Rattle.cmd_schedule.specs.declared.schedule.WireLine.{WireLine}
use Rattle.cmd_schedule.specs.declared.schedule.WireStep.TheVariants as wire
use Rattle.cmd_world.proofs.AllMoves.{kept_by_lines, stepped_append}
use Rattle.cmd_world.specs.Histories.{world_at_start, world_of}
use Rattle.cmd_world.specs.Lines.{all_stepped}
use Rattle.cmd_world.specs.Worlds.{ByteWorld}
use Rattle.law_restart.specs.Stopping.{again}
use Rattle.sm_resumption.specs.declared.answers.TheConstants.{RESUMABLE_FOR}
use Rattle.srv_core.specs.Events.{Whole}
use Rattle.cmd_restart_lines.proofs.Declared.{start_same}
use Rattle.cmd_restart_lines.proofs.Restarted.{all_told, few_behind, started_world}
use Rattle.cmd_restart_lines.proofs.StandingWorlds.{Stands, stands_at_start, stands_move}
use Rattle.cmd_restart_lines.specs.RestartLines.{as_schedule, expand, line_at, lines_cutting_all, lines_from, lines_of, lines_restarting, with_dial}
use Rattle.cmd_restart_lines.specs.RestartedRuns.{all_gone, gone, restarted, restarted_end}

-- what the lines of a restart leave, of the clock and of what a server is started again with
record Leaves (v w : ByteWorld) : Type 0 where
  moment : v.moment ≡ w.moment + RESUMABLE_FOR
  same : again v.moment v.server.server_state ≡ again (w.moment + RESUMABLE_FOR) w.server.server_state

leaves : (number dialed : ℕ) (w : ByteWorld) → Stands w → length w.wires ≤ dialed → Leaves (all_stepped (lines_restarting number dialed) w) w
leaves number dialed w stands few =
    let v = all_stepped (lines_restarting number dialed) w in
    let last = line_at number (wire.Common (TickStep 300000)) ∷ [] in
    let cut = (all_told number dialed w).same in
    let moment : v.moment ≡ w.moment + RESUMABLE_FOR = ap (λ (x : ByteWorld). x.moment) (stepped_append (lines_cutting_all number dialed) last w) ∙ ap (λ (n : ℕ). n + RESUMABLE_FOR) cut.moment in
    let is = started_world w number dialed stands few in
    record {
      moment = moment;
      same = ap (λ (s : Whole (List ℕ)). again v.moment s.server_state) is ∙ ap (λ (n : ℕ). again n w.server.server_state) moment;
    }

pub restart_moment : (number dialed : ℕ) (w : ByteWorld) → Stands w → length w.wires ≤ dialed → (all_stepped (lines_restarting number dialed) w).moment ≡ w.moment + 300000
restart_moment number dialed w stands few = (leaves number dialed w stands few).moment

-- the server that is started is the one that is there
restarted_so : (number dialed : ℕ) (w : ByteWorld) → Stands w → length w.wires ≤ dialed → restarted number dialed w ≡ all_stepped (lines_restarting number dialed) w
restarted_so number dialed w stands few =
    let v = all_stepped (lines_restarting number dialed) w in
    ap (λ (s : Whole (List ℕ)). record v { server = s }) ((leaves number dialed w stands few).same ∙ sym (started_world w number dialed stands few))

pub gone_so : (is : Bool) (dialed : ℕ) (line : WireLine) (w : ByteWorld) → Stands w → length w.wires ≤ dialed → gone is dialed line w ≡ all_stepped (lines_of is dialed line) w
gone_so true dialed line w stands few = restarted_so line.number dialed w stands few
gone_so false dialed line w stands few = refl

all_gone_so : (dialed : ℕ) (restarts : List ℕ) (lines : List WireLine) (w : ByteWorld) → Stands w → length w.wires ≤ dialed → all_gone dialed restarts lines w ≡ all_stepped (lines_from dialed restarts lines) w
all_gone_so dialed restarts [] w stands few = refl
all_gone_so dialed restarts (line ∷ lines) w stands few =
    let is = is_next line.number restarts in
    let own = lines_of is dialed line in
    let v = all_stepped own w in
    let rest = lines_from (with_dial line.step dialed) (without_next is restarts) lines in
    ap (all_gone (with_dial line.step dialed) (without_next is restarts) lines) (gone_so is dialed line w stands few)
    ∙ all_gone_so (with_dial line.step dialed) (without_next is restarts) lines v (kept_by_lines Stands stands_move own w stands) (few_behind is line dialed w few)
    ∙ sym (stepped_append own rest w)

pub run_world : (f : FileView) → IsRestartFile f → restarted_end f ≡ world_of (as_schedule f)
unfolding restarted_end world_of expand
run_world f is =
    let same = start_same f is.restarts in
    ap (all_gone 0 f.restarts f.schedule.lines) (sym same)
    ∙ all_gone_so 0 f.restarts f.schedule.lines (world_at_start (as_schedule f)) (stands_at_start (as_schedule f)) (le_refl 0)
