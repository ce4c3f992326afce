use Rattle.sim_7_schedules.proofs.TriesEnd.{none_before, none_of_absent, once_at_most, once_where_done}
use Rattle.sim_7_schedules.proofs.intents.intents_of_files_are_taken_once_at_most.Goals as goal

pub returns-clause-once : goal.returns-clause-once
returns-clause-once c = λ f right i k has. once_at_most f right i k has c.an_intent_is_taken_once_at_most.ensures.once

pub returns-clause-newest : goal.returns-clause-newest
returns-clause-newest c = λ f right i k has before last are. none_before f right i k has c.an_intent_is_taken_once_at_most.ensures.newest before last are

pub returns-clause-done : goal.returns-clause-done
returns-clause-done c = λ f right i k has is among. once_where_done f right i k has c.an_intent_is_taken_once_at_most.ensures.logged c.an_intent_is_taken_once_at_most.ensures.acknowledged among is

pub returns-clause-absent : goal.returns-clause-absent
returns-clause-absent c = λ f right i k has is. none_of_absent f right i k has c.an_intent_is_taken_once_at_most.ensures.absent is
