use Rattle.law_xml.proofs.ByteRowLaws as rows
use Rattle.law_xml.proofs.byte_rows.faults_of_tokens_are_rows_of_bytes.Goals as goal

pub returns-clause-broken : goal.returns-clause-broken
returns-clause-broken c = λ limits bytes b at w none bad is other. rows.broken_told limits bytes b at w none is other bad

pub returns-clause-reference : goal.returns-clause-reference
returns-clause-reference c = λ limits bytes before name b at w none e is other. rows.reference_told limits bytes b at w none is other before name e

pub returns-clause-bang : goal.returns-clause-bang
returns-clause-bang c = λ limits bytes before more b at w none e o few is other. rows.bang_told limits bytes b at w none is other before more e o few

pub returns-clause-question : goal.returns-clause-question
returns-clause-question c = λ limits bytes before more b at w none e o is other. rows.question_told limits bytes b at w none is other before more e o

pub returns-clause-declaration : goal.returns-clause-declaration
returns-clause-declaration c = λ limits bytes before more b at w none e o is other. rows.declaration_told limits bytes b at w none is other before more e o
