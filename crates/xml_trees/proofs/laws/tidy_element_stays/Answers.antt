use Rattle.xml_trees.proofs.TidyLaws.{tidied_IsTree, tidied_after_AreTidy, tidied_nodes_stay, tidied_stays}
use Rattle.std.proofs.Common.{[]}
use Rattle.xml_trees.proofs.laws.tidy_element_stays.Goals as goal

pub returns-clause-tree : goal.returns-clause-tree
returns-clause-tree c = tidied_IsTree

pub returns-clause-stays : goal.returns-clause-stays
returns-clause-stays c = tidied_stays

pub returns-clause-nodes : goal.returns-clause-nodes
returns-clause-nodes c = tidied_after_AreTidy []

pub returns-clause-nodes_stay : goal.returns-clause-nodes_stay
returns-clause-nodes_stay c = tidied_nodes_stay
