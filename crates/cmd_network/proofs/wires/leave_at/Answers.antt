use Rattle.std.proofs.Common.{arith}
use Rattle.cmd_network.proofs.Positions.{changed_there}
use Rattle.cmd_network.proofs.wires.leave_at.Goals as goal
use Rattle.cmd_network.specs.Wires.{left}

pub returns-then-position-len : goal.returns-then-position-len
returns-then-position-len c = changed_there c.args.wires.now.items c.args.position (left) c.index_mut.result.now c.leave.new.self (omega arith) c.index_mut.ensures.value c.leave.ensures
