use Rattle.std.proofs.Common.{ap}
use Rattle.cmd_resolving.specs.Expansion.{as_schedule}
use Rattle.cmd_run.proofs.laws.files_are_decided.Goals as goal
use Rattle.cmd_world.specs.WorldReports.{report_of}
use Rattle.cmd_run.proofs.Decided.{decided}

pub returns : goal.returns
returns c = λ f right.
    decided f right (c.files_come_to_worlds_of_schedules.ensures f) (c.line_lists_are_lawful.ensures (as_schedule f) (c.files_are_line_lists.ensures f right))
    (c.wire_reports_are_of_their_worlds.ensures.lists (as_schedule f) (c.files_are_line_lists.ensures f right))
    (λ i k has. record {
      once = c.intents_of_files_are_taken_once_at_most.ensures.once f right i k has;
      newest = c.intents_of_files_are_taken_once_at_most.ensures.newest f right i k has;
      done = c.intents_of_files_are_taken_once_at_most.ensures.done f right i k has;
      absent = c.intents_of_files_are_taken_once_at_most.ensures.absent f right i k has;
      again = c.intents_are_tried_again_where_absent.ensures f i k has;
    })
