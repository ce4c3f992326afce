use Rattle.std.proofs.Common.{arith, refl}
use Rattle.mam_log.proofs.Rising.{rise_more, rises_on}
use Rattle.mam_log.specs.LogPages.{ids_of}
use Rattle.mam_log.proofs.id_order.rise.Goals as goal

pub is_above-requires-text-other : goal.is_above-requires-text-other
is_above-requires-text-other c κs = c.loop-at.invariant.text

pub loop-at-preserved : goal.loop-at-preserved
loop-at-preserved c =
    let known = ids_of c.args.entries.now in
    let above = c.if-not-is_above.ensures refl in
    record {
      text = c.as_str-id.utf8;
      up = rises_on known c.args.results.now c.loop-at.at c.index-results-at.result c.loop-at.last.now c.as_str-id.result.now
          (omega arith) c.as_str-id.ensures above c.loop-at.invariant.up;
      rise = rise_more known c.args.results.now c.loop-at.at c.index-results-at.result c.loop-at.last.now c.as_str-id.result.now
          (omega arith) c.as_str-id.ensures above c.loop-at.invariant.up c.loop-at.invariant.rise;
    }
