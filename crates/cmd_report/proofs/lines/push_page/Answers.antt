use Rattle.std.proofs.Common.{◌≡◌, suc, ◌+◌, ◌++◌, ◌∷◌, length, take, drop, ap, arith}
use Rattle.std.specs.Vec.Iter.{into_iter_items, into_iter_len}
use Rattle.cmd_report.specs.Lines.{logged_after}
use Rattle.cmd_report.proofs.LoggedLines.{page_step, rest_step}
use Rattle.cmd_report.proofs.lines.push_page.Goals as goal

pub loop-i-preserved : goal.loop-i-preserved
loop-i-preserved c =
    let at = c.loop-i in
    let all = into_iter_items c.args.entries.now in
    let rest = into_iter_items c.next.new.self in
    let logged = c.in-Some.logged in
    let came : into_iter_items at.entries ≡ logged ∷ rest = c.in-Some.ensures.items in
    let fewer : into_iter_len c.next.new.self + 1 ≡ into_iter_len at.entries = c.in-Some.ensures.len in
    let counted : into_iter_len at.entries ≡ length (into_iter_items at.entries) = at.invariant.counted in
    let count : length (into_iter_items at.entries) ≡ suc (length rest) = ap length came in
    record {
      lines =
          rw (c.in_ok-push-in-Some.ensures.ok, c.logged_line.ensures)
          (page_step c.args.count at.i at.lines.items (c.args.lines.now.items ++ logged_after c.args.broken (take c.args.count all)) at.broken logged rest
          c.loop-i-test.true (rw came at at.invariant.lines));
      rest = rest_step c.args.count at.i (drop c.args.count all) logged rest c.loop-i-test.true (rw came at at.invariant.rest);
      counted = omega (arith, fewer, counted, count);
    }
