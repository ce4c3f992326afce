use Rattle.cmd_sync.proofs.Answered.{script_bad, script_right}
use Rattle.cmd_sync.proofs.reading.read_script.Goals as goal

pub returns-clause-found : goal.returns-clause-found
returns-clause-found c = script_right c.args.bytes.now c.script_of.result c.script_of.ensures

pub returns-clause-bad : goal.returns-clause-bad
returns-clause-bad c = script_bad c.args.bytes.now c.script_of.result c.script_of.ensures
