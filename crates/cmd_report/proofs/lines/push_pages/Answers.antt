use Rattle.std.proofs.Common.{◌≡◌, ◌+◌, ◌++◌, ◌∷◌, drop, get_or, sym}
use Rattle.std.proofs.lemmas.List.{drop_more}
use Rattle.std.specs.Vec.Iter.{into_iter_items}
use Rattle.cmd_report.specs.Lines.{logged_by}
use Rattle.cmd_report.proofs.LoggedLines.{pages_step}
use Rattle.cmd_report.proofs.lines.push_pages.Goals as goal

pub loop-tile-preserved : goal.loop-tile-preserved
loop-tile-preserved c =
    let at = c.loop-tile in
    let tiles = c.as_slice-tile-items.result.now in
    let tile = c.tile-item.result in
    let following = drop (at.tile-index + 1) tiles in
    let here : drop at.tile-index tiles ≡ tile ∷ following =
    let more : drop at.tile-index tiles ≡ get_or tiles at.tile-index tile ∷ following = drop_more tiles at.tile-index tile c.loop-tile-test.true in
    rw (sym c.tile-item.is) at more in
    record {
      lines =
          rw (c.in_ok-push_page.ensures.lines, c.in_ok-push_page.ensures.rest, c.is_break.ensures)
          (pages_step at.lines.items (c.args.lines.now.items ++ logged_by 0 tiles (into_iter_items c.args.entries.now)) at.before c.saturating_add-before.result tile following
          (into_iter_items at.entries) c.saturating_add-before.ensures (rw here at at.invariant.lines));
      counted = c.in_ok-push_page.ensures.counted;
    }
