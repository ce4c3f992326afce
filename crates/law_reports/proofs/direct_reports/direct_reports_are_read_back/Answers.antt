use Rattle.law_reports.proofs.DirectReports.{direct_read_back}
use Rattle.law_reports.proofs.direct_reports.direct_reports_are_read_back.Goals as goal

pub returns : goal.returns
returns c = direct_read_back
