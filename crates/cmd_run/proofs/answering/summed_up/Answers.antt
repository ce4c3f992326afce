use Rattle.std.proofs.Common.{ap, subst, ◌∙◌}
use Rattle.cmd_generate.specs.Generated.{generated}
use Rattle.cmd_generate.specs.Summary.{summary_of}
use Rattle.cmd_schedule.specs.Schedules.{WireView}
use Rattle.cmd_schedule.specs.WireGrammar.{IsWireSchedule}
use Rattle.cmd_world.specs.Histories.{world_of}
use Rattle.cmd_world.specs.WorldReports.{report_of}
use Rattle.cmd_run.specs.Table.{IsWireReport}
use Rattle.cmd_run.proofs.answering.summed_up.Goals as goal

pub returns-clause-text : goal.returns-clause-text
returns-clause-text c = c.in_ok-summary.ensures.text ∙ ap (λ (s : WireView). summary_of s (report_of (world_of s))) c.in_ok-schedule.ensures.made

pub returns-clause-lawful : goal.returns-clause-lawful
returns-clause-lawful c =
    let made = c.in_ok-schedule.ensures.made in (
      report_of (world_of (generated c.args.number c.args.size)),
      subst IsWireSchedule made c.in_ok-schedule.ensures.grammar,
      subst (λ (s : WireView). IsWireReport s (report_of (world_of s))) made c.in_ok-summary.ensures.lawful,
      c.in_ok-summary.ensures.text ∙ ap (λ (s : WireView). summary_of s (report_of (world_of s))) made,
    )
