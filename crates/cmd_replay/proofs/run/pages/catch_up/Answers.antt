-- One turn more.
use Rattle.std.proofs.Common.{List, ap, subst, sym}
use Rattle.mam_log.specs.Views.{LogView}
use Rattle.mam_log.specs.declared.log_entry.LogEntry.{LogEntry}
use Rattle.cmd_replay.proofs.CatchUps.{turn_in_order, turn_kept, turn_smaller}
use Rattle.cmd_replay.specs.Turns.{IsInOrder, caught_up}
use Rattle.cmd_replay.proofs.run.pages.catch_up.Goals as goal

pub loop-more-preserved : goal.loop-more-preserved
loop-more-preserved c = record {
  same = turn_kept c.args.archive.now.keep c.args.most c.args.archive.now.last c.args.archive.now.entries c.loop-more.log c.take_page.new.log
      (caught_up c.args.most c.args.archive.now.last c.args.archive.now.entries c.args.log.now)
      c.in_ok-more.field-0 c.entries_are_kept.ensures c.requires.most.0 (rw c.loop-more-test.true at c.loop-more.invariant.same) c.in_ok-more.ensures.page c.in_ok-more.ensures.complete;
  in_order = subst (λ (es : List LogEntry). IsInOrder c.args.archive.now.last es) (sym (ap (λ (l : LogView). l.entries) c.in_ok-more.ensures.page))
      (turn_in_order c.args.archive.now.keep c.args.most c.args.archive.now.last c.args.archive.now.entries c.loop-more.log c.entries_are_kept.ensures c.loop-more.invariant.in_order);
  closed = ap (λ (l : LogView). l.page) c.in_ok-more.ensures.page;
}

pub loop-more-smaller : goal.loop-more-smaller
loop-more-smaller c =
    rw c.loop-more-test.true (turn_smaller c.args.archive.now.keep c.args.most c.args.archive.now.last c.args.archive.now.entries c.loop-more.log c.take_page.new.log c.in_ok-more.field-0
    c.entries_are_kept.ensures c.requires.most.0 c.in_ok-more.ensures.page c.in_ok-more.ensures.complete)
