use Rattle.sim_5_devices.proofs.Saying.{built_so, says_may, says_put, says_represents, says_same}
use Rattle.sim_5_devices.proofs.submissions.says_told.Goals as goal
use Rattle.std.proofs.Common.{false}

pub returns : goal.returns
returns c = record { represents = says_represents; same = says_same; put = says_put; built = built_so; may = λ o c d to text p. says_may o c d to text false p }
