use Rattle.std.proofs.Common.{[], ◌∷◌, ◌++◌, ap, ◌∙◌}
use Rattle.cmd_report.specs.Lines.{entry_line}
use Rattle.cmd_world.proofs.ReportLines.{line_more}
use Rattle.cmd_world.proofs.report.entry_lines.Goals as goal

pub loop-position-preserved : goal.loop-position-preserved
loop-position-preserved c =
    line_more entry_line c.loop-position.lines.items c.push.new.self.items _ c.args.archive.now.entries c.loop-position.position c.entry_at.result.now c.entry_at.ensures
    (c.in_ok-push.ensures.ok ∙ ap (λ l. c.loop-position.lines.items ++ l ∷ []) c.in_ok-copied_entry_line.ensures) c.loop-position.invariant
