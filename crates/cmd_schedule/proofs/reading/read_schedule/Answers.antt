use Rattle.cmd_schedule.proofs.Answered.{found_of, bad_of}
use Rattle.cmd_schedule.proofs.reading.read_schedule.Goals as goal

pub returns-clause-found : goal.returns-clause-found
returns-clause-found c = found_of c.args.bytes.now c.schedule_of.result c.schedule_of.ensures

pub returns-clause-bad : goal.returns-clause-bad
returns-clause-bad c = bad_of c.args.bytes.now c.schedule_of.result c.schedule_of.ensures
