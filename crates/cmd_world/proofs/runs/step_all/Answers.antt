use Rattle.std.proofs.Common.{◌≡◌, ◌+◌, ◌∷◌, drop, length, refl, ap, subst, sym, ◌∙◌, arith}
use Rattle.std.proofs.lemmas.Option.{slice_get_read}
use Rattle.srv_core.proofs.Restarts.{next as rest_from}
use Rattle.cmd_world.proofs.Numbers.{numbered_line}
use Rattle.cmd_world.proofs.runs.step_all.Goals as goal
use Rattle.cmd_world.specs.Lines.{all_stepped, stepped}
use Rattle.cmd_world.specs.Standing.{IsNumbered, MayAllStep}

pub loop-line-preserved : goal.loop-line-preserved
loop-line-preserved c =
    let w = c.loop-line.world in
    let line = c.line-item.result in
    let rest = drop (c.loop-line.line-index + 1) c.args.lines.now in
    let next : drop c.loop-line.line-index c.args.lines.now ≡ line ∷ rest = rest_from c.args.lines.now c.loop-line.line-index line (slice_get_read c.args.lines.now (length c.args.lines.now) c.loop-line.line-index line refl (omega arith) c.line-item.is) in
    let may : MayAllStep (line ∷ rest) w = subst (λ ls. MayAllStep ls w) next c.loop-line.invariant.right in
    let is : c.step.new.self ≡ stepped line w = c.in_ok-step.ensures.ok in
    record {
      numbered = subst IsNumbered (sym is) (numbered_line line w c.loop-line.invariant.numbered);
      right = subst (MayAllStep rest) (sym is) may.1;
      done = ap (all_stepped rest) is ∙ sym (ap (λ ls. all_stepped ls w) next) ∙ c.loop-line.invariant.done;
    }
