use Rattle.xml_trees.proofs.TidyReads.{attr_of-tidied, child_of-tidied, depth-tidied, is_named-tidied, text_of-tidied}
use Rattle.xml_trees.proofs.laws.tidy_element_reads_the_same.Goals as goal

pub returns-clause-named : goal.returns-clause-named
returns-clause-named c = is_named-tidied

pub returns-clause-attr : goal.returns-clause-attr
returns-clause-attr c = attr_of-tidied

pub returns-clause-child : goal.returns-clause-child
returns-clause-child c = child_of-tidied

pub returns-clause-text : goal.returns-clause-text
returns-clause-text c = text_of-tidied

pub returns-clause-depth : goal.returns-clause-depth
returns-clause-depth c = depth-tidied
