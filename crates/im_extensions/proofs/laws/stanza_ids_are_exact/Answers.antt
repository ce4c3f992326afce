use Rattle.im_extensions.proofs.IdLaws.{stanza_id_exact}
use Rattle.im_extensions.proofs.IdLaws.{origin_id_exact}
use Rattle.im_extensions.proofs.laws.stanza_ids_are_exact.Goals as goal

pub returns-clause-stanza_id : goal.returns-clause-stanza_id
returns-clause-stanza_id c = stanza_id_exact

pub returns-clause-origin_id : goal.returns-clause-origin_id
returns-clause-origin_id c = origin_id_exact
