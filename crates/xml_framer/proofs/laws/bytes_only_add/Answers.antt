use Rattle.xml_framer.proofs.BytesSoFar.{items_split, nothing_after, nothing_given, pieces_joined}
use Rattle.xml_framer.proofs.laws.bytes_only_add.Goals as goal

pub returns-clause-nothing : goal.returns-clause-nothing
returns-clause-nothing c = nothing_given

pub returns-clause-items : goal.returns-clause-items
returns-clause-items c = items_split

pub returns-clause-pieces : goal.returns-clause-pieces
returns-clause-pieces c = pieces_joined

pub returns-clause-fault : goal.returns-clause-fault
returns-clause-fault c = nothing_after
