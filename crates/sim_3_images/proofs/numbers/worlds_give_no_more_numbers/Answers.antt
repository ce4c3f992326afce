use Rattle.sim_3_images.proofs.WorldsWithin.{move_within, moves_within}
use Rattle.sim_3_images.proofs.numbers.worlds_give_no_more_numbers.Goals as goal

pub returns : goal.returns
returns c = record { one = move_within; many = moves_within }
