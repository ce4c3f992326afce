use Rattle.xml_framer.proofs.ItemsBefore.{given_before}
use Rattle.xml_framer.proofs.Pieces.{run_append}
use Rattle.xml_framer.proofs.laws.any_pieces.Goals as goal

pub returns-clause-pieces : goal.returns-clause-pieces
returns-clause-pieces c = run_append

pub returns-clause-following : goal.returns-clause-following
returns-clause-following c = given_before
