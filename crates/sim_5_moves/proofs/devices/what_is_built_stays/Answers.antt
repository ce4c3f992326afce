use Rattle.sim_5_moves.proofs.Grown.{built_grows, built_taken, down_grows, gives_built, says_built}
use Rattle.sim_5_moves.proofs.devices.what_is_built_stays.Goals as goal

pub returns : goal.returns
returns c = record { one = down_grows; all = built_grows; takes = built_taken; gives = gives_built; says = says_built }
