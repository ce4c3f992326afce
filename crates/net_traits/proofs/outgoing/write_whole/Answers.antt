use Rattle.std.proofs.Common.{◌∙◌, ◌++◌, take}
use Rattle.std.proofs.KnownBytes.{Appends-trans}
use Rattle.base_io.proofs.Parts.{prefix_kept, split_at}
use Rattle.net_traits.proofs.outgoing.write_whole.Goals as goal

pub loop-rest-preserved : goal.loop-rest-preserved
loop-rest-preserved g c =
    let before = c.loop-rest.invariant in (
      before.0 ++ take c.in-Ok.n c.loop-rest.rest.now,
      split_at _ before.0 c.loop-rest.rest.now c.in-Ok.n before.1,
      Appends-trans _ _ _ before.0 _ before.2 c.in-Ok.ensures.written,
      c.in-Ok.ensures.cause.quiet ∙ before.3,
      (λ none. c.in-Ok.ensures.silent (before.4 none)),
      c.in-Ok.ensures.number ∙ before.5,
      c.in-Ok.ensures.closed ∙ before.6,
    )

pub returns-in-Err-clause-prefix : goal.returns-in-Err-clause-prefix
returns-in-Err-clause-prefix g c =
    let before = c.loop-rest.invariant in
    prefix_kept _ _ _ _ before.0 c.loop-rest.rest.now before.1 before.2 c.in-Err.ensures.written
