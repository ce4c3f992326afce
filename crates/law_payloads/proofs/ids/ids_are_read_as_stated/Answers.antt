use Rattle.law_payloads.proofs.IdReads.{origin_id_answers, stanza_id_answers}
use Rattle.law_payloads.proofs.ids.ids_are_read_as_stated.Goals as goal

pub returns-clause-stanza_id : goal.returns-clause-stanza_id
returns-clause-stanza_id c = stanza_id_answers

pub returns-clause-origin_id : goal.returns-clause-origin_id
returns-clause-origin_id c = origin_id_answers
