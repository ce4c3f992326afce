use Rattle.std.proofs.Common.{◌≡◌, ap, ap₂, ◌∙◌}
use Rattle.cmd_schedule.specs.Schedules.{WireView}
use Rattle.cmd_deciding.specs.Looks.{watching}
use Rattle.cmd_deciding.specs.Starts.{none_in}
use Rattle.cmd_deciding.proofs.starting.watch_schedule.Goals as goal

pub returns : goal.returns
returns c =
    let lines : c.as_slice.result.now ≡ c.args.schedule.now.lines = c.as_slice.ensures ∙ ap (λ (s : WireView). s.lines) c.schedule.view_is in
    ap₂ watching c.in_ok-world.ensures (c.in_ok-intents.ensures ∙ ap none_in lines)
