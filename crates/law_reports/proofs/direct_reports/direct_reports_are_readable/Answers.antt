use Rattle.law_reports.proofs.DirectReports.{direct_readable}
use Rattle.law_reports.proofs.direct_reports.direct_reports_are_readable.Goals as goal

pub returns : goal.returns
returns c = direct_readable
