use Rattle.cmd_report_reader.proofs.Answered.{apart_of}
use Rattle.cmd_report_reader.proofs.laws.reports_are_told_apart.Goals as goal

pub returns : goal.returns
returns c = apart_of
