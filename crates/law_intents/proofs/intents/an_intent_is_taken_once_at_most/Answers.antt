use Rattle.law_intents.proofs.Runs.{absent_is, acknowledged_once, logged_once, newest_is, once_is}
use Rattle.law_intents.proofs.intents.an_intent_is_taken_once_at_most.Goals as goal

pub returns-clause-once : goal.returns-clause-once
returns-clause-once c = λ i s reached d at. once_is c.messages_are_taken_once_in_order.ensures.rise i s reached d at

pub returns-clause-newest : goal.returns-clause-newest
returns-clause-newest c = λ i s reached d at t tries are. newest_is c.messages_are_taken_once_in_order.ensures.rise i s reached d at t tries are

pub returns-clause-absent : goal.returns-clause-absent
returns-clause-absent c = λ i s reached d at t tries are absent. absent_is c.messages_are_taken_once_in_order.ensures.rise i s reached d at t tries are absent

pub returns-clause-logged : goal.returns-clause-logged
returns-clause-logged c = λ i s reached d at t tries are logged. logged_once c.messages_are_taken_once_in_order.ensures.rise i s reached d at t tries are logged

pub returns-clause-acknowledged : goal.returns-clause-acknowledged
returns-clause-acknowledged c = λ i s reached d at t tries are acknowledged. acknowledged_once c.messages_are_taken_once_in_order.ensures.rise i s reached d at t tries are acknowledged
