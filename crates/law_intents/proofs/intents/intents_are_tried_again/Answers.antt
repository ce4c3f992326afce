use Rattle.law_intents.proofs.Worked.{a_logged_one, an_absent_one}
use Rattle.law_intents.proofs.intents.intents_are_tried_again.Goals as goal

pub returns-clause-absent : goal.returns-clause-absent
returns-clause-absent c = an_absent_one

pub returns-clause-logged : goal.returns-clause-logged
returns-clause-logged c = a_logged_one
