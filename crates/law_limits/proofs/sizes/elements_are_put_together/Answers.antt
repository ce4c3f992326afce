use Rattle.law_limits.proofs.ElementSizes.{child_size, element_up, joined_size, text_of_size, value_and_nodes}
use Rattle.law_limits.proofs.sizes.elements_are_put_together.Goals as goal

pub returns : goal.returns
returns c = record { up = element_up; down = value_and_nodes; child = child_size; joined = joined_size; text = text_of_size }
