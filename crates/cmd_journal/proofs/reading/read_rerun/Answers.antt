use Rattle.cmd_journal.proofs.Answered.{rerun_bad, rerun_right}
use Rattle.cmd_journal.proofs.reading.read_rerun.Goals as goal

pub returns-clause-found : goal.returns-clause-found
returns-clause-found c = rerun_right c.args.bytes.now c.input_of.result c.input_of.ensures

pub returns-clause-bad : goal.returns-clause-bad
returns-clause-bad c = rerun_bad c.args.bytes.now c.input_of.result c.input_of.ensures
