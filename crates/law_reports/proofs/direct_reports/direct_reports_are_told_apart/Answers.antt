use Rattle.law_reports.proofs.DirectReports.{direct_told_apart}
use Rattle.law_reports.proofs.direct_reports.direct_reports_are_told_apart.Goals as goal

pub returns : goal.returns
returns c = direct_told_apart
