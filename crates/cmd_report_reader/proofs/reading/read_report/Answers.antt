use Rattle.cmd_report_reader.proofs.Answered.{again_of, bad_of, found_of}
use Rattle.cmd_report_reader.proofs.reading.read_report.Goals as goal

pub returns-clause-found : goal.returns-clause-found
returns-clause-found c = found_of c.args.bytes.now c.report_of.result c.report_of.ensures

pub returns-clause-again : goal.returns-clause-again
returns-clause-again c = again_of c.args.bytes.now c.report_of.result c.report_of.ensures

pub returns-clause-bad : goal.returns-clause-bad
returns-clause-bad c = bad_of c.args.bytes.now c.report_of.result c.report_of.ensures
