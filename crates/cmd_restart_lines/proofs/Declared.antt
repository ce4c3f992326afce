-- The lines that a file stands for declare what its own lines declare, so that both begin with the same world.
use Rattle.std.proofs.Common.{◌≡◌, ℕ, zero, suc, Bool, true, false, List, [], ◌∷◌, ◌++◌, refl, sym, ap, ap₂, ◌∙◌}
use Rattle.cmd_restarts.specs.Files.{FileView}
use Rattle.cmd_restarts.specs.RestartFiles.{ArePauses, IsPause, is_next, without_next}
use Rattle.cmd_schedule.specs.Contents.{account_name, owned_at}
use Rattle.cmd_schedule.specs.declared.schedule.Step.{Step}
use Rattle.cmd_schedule.specs.declared.schedule.Step.TheVariants.{Tick}
use Rattle.cmd_schedule.specs.declared.schedule.WireLine.{WireLine}
use Rattle.cmd_schedule.specs.declared.schedule.WireStep.{WireStep}
use Rattle.cmd_schedule.specs.declared.schedule.WireStep.TheVariants.{Common}
use Rattle.cmd_world.specs.Histories.{world_at_start}
use Rattle.cmd_world.proofs.Gathered.{gathered, gathered_append, made}
use Rattle.cmd_restart_lines.specs.RestartLines.{as_schedule, expand, line_at, lines_cutting, lines_cutting_all, lines_from, lines_of, with_dial}

-- time that passes declares nothing
module _ {A : Type 0} (give : Step → List A) (ticks : give (Tick 300000) ≡ []) where
  cutting_none : (number k : ℕ) → gathered give (lines_cutting_all number k) ≡ []
  cutting_none number zero = refl
  cutting_none number (suc k) = gathered_append give (lines_cutting_all number k) (lines_cutting number (suc k)) ∙ ap (λ (xs : List A). xs ++ []) (cutting_none number k)

  tick_none : (number : ℕ) → gathered give (line_at number (Common (Tick 300000)) ∷ []) ≡ []
  tick_none number = ap (λ (xs : List A). xs ++ []) ticks

  line_same : (is : Bool) (dialed : ℕ) (line : WireLine) → IsPause is line.step → gathered give (lines_of is dialed line) ≡ gathered give (line ∷ [])
  line_same false dialed line pause = refl
  line_same true dialed line pause =
      let last = line_at line.number (Common (Tick 300000)) ∷ [] in
      gathered_append give (lines_cutting_all line.number dialed) last ∙ ap (λ (xs : List A). xs ++ gathered give last) (cutting_none line.number dialed)
      ∙ ap (λ (step : WireStep). gathered give (line_at line.number step ∷ [])) (sym pause)

  all_same : (dialed : ℕ) (restarts : List ℕ) (lines : List WireLine) → ArePauses restarts lines → gathered give (lines_from dialed restarts lines) ≡ gathered give lines
  all_same dialed restarts [] pauses = refl
  all_same dialed restarts (line ∷ lines) pauses =
      let is = is_next line.number restarts in
      let rest = lines_from (with_dial line.step dialed) (without_next is restarts) lines in
      gathered_append give (lines_of is dialed line) rest
      ∙ ap₂ (λ (xs ys : List A). xs ++ ys) (line_same is dialed line pauses.0) (all_same (with_dial line.step dialed) (without_next is restarts) lines pauses.1)
      ∙ sym (gathered_append give (line ∷ []) lines)

-- the same accounts and devices are there at the start
pub start_same : (f : FileView) → ArePauses f.restarts f.schedule.lines → world_at_start (as_schedule f) ≡ world_at_start f.schedule
unfolding expand
start_same f pauses =
    let lines = f.schedule.lines in
    ap₂ (made f.schedule.version) (all_same account_name refl 0 f.restarts lines pauses) (all_same owned_at refl 0 f.restarts lines pauses)
