-- The lines of a schedule are in their places.
use Rattle.std.proofs.Common.{◌≤◌, ap, sym, subst, ◌∙◌}
use Rattle.cmd_replay.proofs.WholeRuns.{keep_some, lines_of_schedule}
use Rattle.cmd_schedule.specs.Schedules.{ScheduleView, keep_of}
use Rattle.cmd_replay.proofs.run.followed.Goals as goal

pub of_lines-requires-clause-right : goal.of_lines-requires-clause-right
of_lines-requires-clause-right c =
    lines_of_schedule c.as_slice-lines.result.now c.args.schedule.now (c.as_slice-lines.ensures ∙ ap (λ (s : ScheduleView). s.lines) c.schedule.view_is) c.requires

pub of_lines-requires-clause-some : goal.of_lines-requires-clause-some
of_lines-requires-clause-some c = subst (λ (s : ScheduleView). 1 ≤ keep_of s.version) (sym c.schedule.view_is) (keep_some c.args.schedule.now c.requires)

pub follow_lines-requires-clause-right : goal.follow_lines-requires-clause-right
follow_lines-requires-clause-right c =
    lines_of_schedule c.as_slice-lines.result.now c.args.schedule.now (c.as_slice-lines.ensures ∙ ap (λ (s : ScheduleView). s.lines) c.schedule.view_is) c.requires

pub follow_lines-requires-clause-some : goal.follow_lines-requires-clause-some
follow_lines-requires-clause-some c =
    rw c.in_ok-run.ensures.version_is (subst (λ (s : ScheduleView). 1 ≤ keep_of s.version) (sym c.schedule.view_is) (keep_some c.args.schedule.now c.requires))
