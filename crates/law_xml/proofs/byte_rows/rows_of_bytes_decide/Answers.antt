use Rattle.law_xml.proofs.ByteRowLaws as rows
use Rattle.law_xml.proofs.byte_rows.rows_of_bytes_decide.Goals as goal

pub returns : goal.returns
returns c = rows.row_decides
