use Rattle.cmd_sync.proofs.Outcomes.{outcome_untold, stuck_unrun, untold_unrun}
use Rattle.cmd_sync.specs.Views.{course_of}
use Rattle.cmd_sync.proofs.running.through.Goals as goal

pub call-requires : goal.call-requires
call-requires g c = c.requires

pub outcome-requires : goal.outcome-requires
outcome-requires g c = c.in-Ok.ensures.over

pub returns-in-Ok-outcome-clause-ok : goal.returns-in-Ok-outcome-clause-ok
returns-in-Ok-outcome-clause-ok g c = record {
  now = course_of c.call.new.course;
  over = record { held = c.in-Ok.ensures.ok; ends = c.in-Ok-outcome.ensures.done };
  written = c.in-Ok-outcome.ensures.text;
}

pub returns-in-Err-clause-err : goal.returns-in-Err-clause-err
returns-in-Err-clause-err g c = untold_unrun c.in-Err.fault _ _ _ (outcome_untold c.in-Err.fault _ _ _ (course_of c.call.new.course) c.in-Ok.ensures.ok c.in-Err.ensures.err)

pub returns-in-Err-Link-clause-err : goal.returns-in-Err-Link-clause-err
returns-in-Err-Link-clause-err g c = rw c.in-Err-Link.field-0-is (rw c.in-Err-Link.field-0-is at c.in-Err-Link.ensures.err)

pub returns-in-Err-NoMemory-clause-err : goal.returns-in-Err-NoMemory-clause-err
returns-in-Err-NoMemory-clause-err g c = stuck_unrun _ _ _ (rw c.in-Err-NoMemory.field-0-is at c.in-Err-NoMemory.ensures.err)
