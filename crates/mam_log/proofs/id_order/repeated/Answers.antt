use Rattle.std.proofs.Common.{Some, arith, sym, ap, ◌∙◌}
use Rattle.mam_log.proofs.Repeats.{ids_more, repeat_here, repeat_on}
use Rattle.mam_log.specs.LogPages.{ids_of}
use Rattle.mam_log.proofs.id_order.repeated.Goals as goal

pub returns-then-is_repeated : goal.returns-then-is_repeated
returns-then-is_repeated c =
    ap Some (c.in_ok-copied.ensures ∙ sym c.as_str.ensures)
    ∙ sym (c.loop-at.invariant.same ∙ repeat_here (ids_of c.args.entries.now) c.args.results.now c.loop-at.at c.index-results-at.result c.as_str.result.now c.is_repeated.result
    (omega arith) c.as_str.ensures c.is_repeated.ensures c.if-is_repeated.true)

pub loop-at-preserved : goal.loop-at-preserved
loop-at-preserved c = record {
  order = rw (ids_more c.args.results.now c.loop-at.at c.index-results-at.result c.as_str-in-loop-at.result.now (omega arith) c.as_str-in-loop-at.ensures) c.put.ensures.order;
  same = c.loop-at.invariant.same ∙ repeat_on (ids_of c.args.entries.now) c.args.results.now c.loop-at.at c.index-results-at.result c.as_str.result.now c.is_repeated.result
      (omega arith) c.as_str.ensures c.is_repeated.ensures c.if-is_repeated.false;
  room = omega (arith, c.put.ensures.room, c.loop-at.invariant.room);
}
