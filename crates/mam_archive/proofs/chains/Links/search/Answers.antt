use Rattle.std.proofs.Common.{◌+◌, ◌-◌, ◌/◌, Some, arith, sym, ap, ◌∙◌}
use Rattle.mam_archive.proofs.ChainSteps.{above_more, below_more}
use Rattle.mam_archive.proofs.Keys.{below_from_greater, same_from_equal}
use Rattle.mam_archive.proofs.chains.Links.search.Goals as goal

pub loop-low-preserved-in-Less : goal.loop-low-preserved-in-Less
loop-low-preserved-in-Less c =
    let middle = c.loop-low.low + (c.loop-low.high - c.loop-low.low) / 2 in
    record {
      order = omega arith;
      high = c.loop-low.invariant.high;
      below = λ keys known. below_more keys middle c.peer_at.result.now c.args.peer.now known.ascend (c.peer_at.ensures keys known) (sym c.cmp.ensures ∙ c.in-Less.is);
      above = c.loop-low.invariant.above;
    }

pub returns-in-Equal-clause-found : goal.returns-in-Equal-clause-found
returns-in-Equal-clause-found c = λ keys known.
    c.peer_at.ensures keys known ∙ ap Some (same_from_equal c.peer_at.result.now c.args.peer.now (sym c.cmp.ensures ∙ c.in-Equal.is))

pub loop-low-preserved : goal.loop-low-preserved
loop-low-preserved c =
    let middle = c.loop-low.low + (c.loop-low.high - c.loop-low.low) / 2 in
    record {
      order = omega arith;
      high = omega (arith, c.loop-low.invariant.high);
      below = c.loop-low.invariant.below;
      above = λ keys known. above_more keys middle c.peer_at.result.now c.args.peer.now known.ascend (c.peer_at.ensures keys known)
          (below_from_greater c.peer_at.result.now c.args.peer.now (sym c.cmp.ensures ∙ c.in-Greater.is));
    }
