use Rattle.std.proofs.Common.{arith}
use Rattle.cmd_network.proofs.Positions.{changed_there}
use Rattle.cmd_network.proofs.wires.shut_at.Goals as goal
use Rattle.cmd_network.specs.Wires.{shut}

pub returns-then-position-len : goal.returns-then-position-len
returns-then-position-len c = changed_there c.args.wires.now.items c.args.position (shut) c.index_mut.result.now c.shut.new.self (omega arith) c.index_mut.ensures.value c.shut.ensures
