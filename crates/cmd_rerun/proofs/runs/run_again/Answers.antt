use Rattle.std.proofs.Common.{◌≡◌, IfOk, map, subst}
use Rattle.cmd_journal.specs.Journals.{event_view}
use Rattle.cmd_rerun.proofs.EventRuns.{whole_run}
use Rattle.cmd_rerun.specs.Reruns.{Run, run_of, text_of_run}
use Rattle.cmd_rerun.proofs.runs.run_again.Goals as goal

pub returns : goal.returns
returns c =
    let is = whole_run c.args.file.now (map event_view c.args.events.now) (run_of c.on_events.new.server c.on_events.new.outputs.items) c.in_ok-server.server c.new-outputs.result.items
    c.in_ok-on_events.ensures c.in_ok-server.ensures c.new-outputs.ensures in
    subst (λ (r : Run). IfOk c.text_of_run.result (λ text. text.items ≡ text_of_run c.args.file.now r)) is c.text_of_run.ensures
