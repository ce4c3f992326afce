use Rattle.law_payloads.proofs.TreeReads.{elements_inside, elements_of_nodes}
use Rattle.law_payloads.proofs.trees.elements_are_tidied.Goals as goal

pub returns-clause-inside : goal.returns-clause-inside
returns-clause-inside c = elements_inside

pub returns-clause-nodes : goal.returns-clause-nodes
returns-clause-nodes c = elements_of_nodes
