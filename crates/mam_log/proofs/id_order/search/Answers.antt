use Rattle.std.proofs.Common.{◌+◌, ◌-◌, ◌/◌, arith, sym, ◌∙◌}
use Rattle.std.proofs.lemmas.List.{length-map}
use Rattle.mam_archive.proofs.ChainSteps.{above_more, below_more}
use Rattle.mam_archive.proofs.Keys.{below_from_greater, same_from_equal}
use Rattle.mam_log.proofs.Orders.{found_text}
use Rattle.mam_log.specs.LogPages.{ids_of}
use Rattle.mam_log.specs.Orders.{text_at, texts_at}
use Rattle.mam_log.proofs.id_order.search.Goals as goal

pub loop-low-preserved-in-Less : goal.loop-low-preserved-in-Less
loop-low-preserved-in-Less c =
    let middle = c.loop-low.low + (c.loop-low.high - c.loop-low.low) / 2 in
    let keys = texts_at (ids_of c.args.entries.now) c.args.positions.now in
    record {
      order = omega arith;
      high = c.loop-low.invariant.high;
      below = below_more keys middle c.id_at.result.now c.args.id.now c.requires.order.ascend c.id_at.ensures (sym c.cmp.ensures ∙ c.in-Less.is);
      above = c.loop-low.invariant.above;
    }

pub loop-low-preserved : goal.loop-low-preserved
loop-low-preserved c =
    let middle = c.loop-low.low + (c.loop-low.high - c.loop-low.low) / 2 in
    let keys = texts_at (ids_of c.args.entries.now) c.args.positions.now in
    record {
      order = omega arith;
      high = omega (arith, c.loop-low.invariant.high);
      below = c.loop-low.invariant.below;
      above = above_more keys middle c.id_at.result.now c.args.id.now c.requires.order.ascend c.id_at.ensures
          (below_from_greater c.id_at.result.now c.args.id.now (sym c.cmp.ensures ∙ c.in-Greater.is));
    }

pub returns-in-Equal-clause-there : goal.returns-in-Equal-clause-there
returns-in-Equal-clause-there c =
    let middle = c.loop-low.low + (c.loop-low.high - c.loop-low.low) / 2 in
    found_text c.args.positions.now (ids_of c.args.entries.now) c.args.id.now c.id_at.result.now middle c.requires.order c.id_at.ensures
    (same_from_equal c.id_at.result.now c.args.id.now (sym c.cmp.ensures ∙ c.in-Equal.is))

pub returns-clause-gap : goal.returns-clause-gap
returns-clause-gap c =
    let size = length-map c.args.positions.now (text_at (ids_of c.args.entries.now)) in
    record {
      bound = omega (arith, size, c.loop-low.invariant.order, c.loop-low.invariant.high);
      below = c.loop-low.invariant.below;
      above = λ i q le is. c.loop-low.invariant.above i q (omega (arith, le)) is;
    }
