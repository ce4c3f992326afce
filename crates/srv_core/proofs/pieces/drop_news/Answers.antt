use Rattle.std.proofs.Common.{ap, ◌∙◌}
use Rattle.srv_core.proofs.Feeding.{outs_drop, range_end}
use Rattle.srv_core.specs.Events.{dropped}
use Rattle.srv_state.specs.Seen.{outs_of}
use Rattle.srv_core.proofs.pieces.drop_news.Goals as goal

pub returns-in-Some : goal.returns-in-Some
returns-in-Some c =
    c.drop_shut.ensures
    ∙ ap (λ os. dropped os c.args.framers.now.entries)
    (ap outs_of (c.in-Some.ensures.lookup.0.2 ∙ range_end c.args.from c.args.outputs.now) ∙ outs_drop c.args.from c.args.outputs.now)
