use Rattle.law_xml.proofs.PipeLaws.{empties, part_is_rest}
use Rattle.law_xml.proofs.carried.an_emptied_pipe_carries_nothing.Goals as goal

pub returns : goal.returns
returns c = record { emptied = empties; in_hand = part_is_rest }
