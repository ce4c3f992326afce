use Rattle.std.proofs.Common.{◌≡◌, ◌+◌, ◌∷◌, drop, length, refl, ap, subst, sym, ◌∙◌, arith}
use Rattle.std.proofs.lemmas.Option.{slice_get_read}
use Rattle.srv_core.proofs.Restarts.{next as rest_from}
use Rattle.cmd_resolving.specs.Expansion.{all_gone, gone}
use Rattle.cmd_deciding.proofs.Along.{Goes, goes_named, goes_next, goes_right, goes_start}
use Rattle.cmd_deciding.proofs.resolving.take_all.Goals as goal

pub loop-line-init : goal.loop-line-init
loop-line-init c = record {
  goes = subst (λ ls. Goes c.args.file.now ls c.args.watch.now) (sym c.requires.lines) (goes_start c.args.file.now c.args.watch.now c.requires.right c.requires.start);
  whole = refl;
}

pub loop-line-preserved : goal.loop-line-preserved
loop-line-preserved c =
    let s = c.loop-line.watch in
    let f = c.args.file.now in
    let line = c.line-item.result in
    let rest = drop (c.loop-line.line-index + 1) c.args.lines.now in
    let next : drop c.loop-line.line-index c.args.lines.now ≡ line ∷ rest = rest_from c.args.lines.now c.loop-line.line-index line (slice_get_read c.args.lines.now (length c.args.lines.now) c.loop-line.line-index line refl (omega arith) c.line-item.is) in
    let goes : Goes f (line ∷ rest) s = subst (λ ls. Goes f ls s) next c.loop-line.invariant.goes in
    let is : c.take.new.self ≡ gone f line s = c.in_ok-take.ensures in
    record {
      goes = subst (Goes f rest) (sym is) (goes_next f line rest s goes);
      whole = ap (all_gone f rest) is ∙ sym (ap (λ ls. all_gone f ls s) next) ∙ c.loop-line.invariant.whole;
    }

pub take-requires-clause-numbered : goal.take-requires-clause-numbered
take-requires-clause-numbered c = c.loop-line.invariant.goes.numbered

pub take-requires-clause-right : goal.take-requires-clause-right
take-requires-clause-right c =
    let s = c.loop-line.watch in
    let f = c.args.file.now in
    let line = c.line-item.result in
    let rest = drop (c.loop-line.line-index + 1) c.args.lines.now in
    let next : drop c.loop-line.line-index c.args.lines.now ≡ line ∷ rest = rest_from c.args.lines.now c.loop-line.line-index line (slice_get_read c.args.lines.now (length c.args.lines.now) c.loop-line.line-index line refl (omega arith) c.line-item.is) in
    goes_right f line rest s (subst (λ ls. Goes f ls s) next c.loop-line.invariant.goes)

pub take-requires-clause-looked : goal.take-requires-clause-looked
take-requires-clause-looked c = c.loop-line.invariant.goes.looked

pub take-requires-clause-named : goal.take-requires-clause-named
take-requires-clause-named c = goes_named c.args.file.now (drop c.loop-line.line-index c.args.lines.now) c.loop-line.watch c.loop-line.invariant.goes
