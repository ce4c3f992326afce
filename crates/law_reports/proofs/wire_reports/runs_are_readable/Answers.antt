use Rattle.law_reports.proofs.RunReports.{run_readable}
use Rattle.law_reports.proofs.wire_reports.runs_are_readable.Goals as goal

pub returns : goal.returns
returns c = run_readable
