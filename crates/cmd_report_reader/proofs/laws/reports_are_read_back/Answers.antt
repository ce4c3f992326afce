use Rattle.cmd_report_reader.proofs.Again.{report_again}
use Rattle.cmd_report_reader.proofs.laws.reports_are_read_back.Goals as goal

pub returns : goal.returns
returns c = report_again
