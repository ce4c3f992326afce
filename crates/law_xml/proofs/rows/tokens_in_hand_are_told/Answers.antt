use Rattle.law_xml.proofs.HandsTold as hands
use Rattle.law_xml.proofs.rows.tokens_in_hand_are_told.Goals as goal

pub returns-clause-token : goal.returns-clause-token
returns-clause-token c = hands.token_told

pub returns-clause-text : goal.returns-clause-text
returns-clause-text c = hands.run_told

pub returns-clause-none : goal.returns-clause-none
returns-clause-none c = hands.none_told
