use Rattle.std.proofs.Common.{ap, ◌∙◌}
use Rattle.cmd_schedule.specs.Schedules.{WireView}
use Rattle.cmd_world.proofs.Traces.{reported}
use Rattle.cmd_world.proofs.runs.wire_report.Goals as goal

pub returns : goal.returns
returns c =
    reported c.args.schedule.now c.as_slice.result.now c.in_ok-world.world c.step_all.new.world c.report.result c.in_ok-world.ensures
    (c.as_slice.ensures ∙ ap (λ (s : WireView). s.lines) c.schedule.view_is) c.in_ok-step_all.ensures c.report.ensures
