use Rattle.law_reports.proofs.RunReports.{run_told_apart}
use Rattle.law_reports.proofs.wire_reports.runs_are_told_apart.Goals as goal

pub returns : goal.returns
returns c = run_told_apart
