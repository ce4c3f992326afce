use Rattle.xml_trees.proofs.AttributeOrder.{given_is_there, kept_is_first, one_IsAttrsOf, sorted_attributes_IsAttrsOf}
use Rattle.xml_trees.specs.Attributes.{sorted_attributes}
use Rattle.xml_trees.proofs.laws.first_attributes_are_kept.Goals as goal

pub returns-clause-kept : goal.returns-clause-kept
returns-clause-kept c = sorted_attributes_IsAttrsOf

pub returns-clause-only : goal.returns-clause-only
returns-clause-only c = λ given kept is. one_IsAttrsOf given kept (sorted_attributes given) is (sorted_attributes_IsAttrsOf given)

pub returns-clause-first : goal.returns-clause-first
returns-clause-first c = kept_is_first

pub returns-clause-there : goal.returns-clause-there
returns-clause-there c = given_is_there
