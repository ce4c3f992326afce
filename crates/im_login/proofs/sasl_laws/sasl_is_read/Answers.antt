use Rattle.im_login.proofs.PayloadLaws.{payload_one}
use Rattle.im_login.proofs.sasl_laws.sasl_is_read.Goals as goal
use Rattle.xml_trees.specs.Readers.{text_of}
use Rattle.xml_trees.specs.Trees.{nodes_of}

pub returns-clause-one_auth : goal.returns-clause-one_auth
returns-clause-one_auth c e m n p q a b = payload_one (text_of (nodes_of e)) p q a.spelled b.spelled

pub returns-clause-one_carrier : goal.returns-clause-one_carrier
returns-clause-one_carrier c name e p q a b = payload_one (text_of (nodes_of e)) p q a.spelled b.spelled
