use Rattle.law_xml.proofs.RowsDecide as rows
use Rattle.law_xml.proofs.RowsTold as told
use Rattle.law_xml.proofs.rows.faults_are_rows.Goals as goal

pub returns-clause-bytes : goal.returns-clause-bytes
returns-clause-bytes c = rows.rows_of_bytes

pub returns-clause-state : goal.returns-clause-state
returns-clause-state c = λ t b at w none alone. (told.decides_row t b at w none alone, rows.row_decides t b at w alone)
