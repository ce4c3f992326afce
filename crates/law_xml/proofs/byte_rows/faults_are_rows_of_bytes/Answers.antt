use Rattle.law_xml.proofs.AllRowLaws as rows
use Rattle.law_xml.proofs.byte_rows.faults_are_rows_of_bytes.Goals as goal

pub returns : goal.returns
returns c = rows.rows_are_all
