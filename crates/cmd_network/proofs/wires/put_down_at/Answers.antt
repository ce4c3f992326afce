use Rattle.std.proofs.Common.{arith}
use Rattle.std.proofs.lemmas.Result.{on_ok_weaker}
use Rattle.cmd_network.proofs.Positions.{changed_there}
use Rattle.cmd_network.proofs.wires.put_down_at.Goals as goal
use Rattle.cmd_network.specs.Wires.{put_down}

pub returns-then-position-len : goal.returns-then-position-len
returns-then-position-len c = on_ok_weaker c.put_down.result (changed_there c.args.wires.now.items c.args.position (put_down c.args.bytes.now) c.index_mut.result.now c.put_down.new.self (omega arith) c.index_mut.ensures.value) c.put_down.ensures
