use Rattle.std.proofs.Common.{arith}
use Rattle.cmd_network.proofs.Positions.{changed_there}
use Rattle.cmd_network.proofs.wires.cut_wire.Goals as goal
use Rattle.cmd_network.specs.Wires.{cut_at}

pub returns-then-position-len : goal.returns-then-position-len
returns-then-position-len c = changed_there c.args.wires.now.items c.args.position (cut_at c.args.up c.args.down) c.index_mut.result.now c.cut.new.self (omega arith) c.index_mut.ensures.value c.cut.ensures
