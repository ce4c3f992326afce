use Rattle.std.proofs.Common.{arith}
use Rattle.std.proofs.lemmas.Result.{on_ok_weaker}
use Rattle.cmd_network.proofs.Positions.{changed_there}
use Rattle.cmd_network.proofs.wires.put_up_at.Goals as goal
use Rattle.cmd_network.specs.Wires.{put_up}

pub returns-then-position-len : goal.returns-then-position-len
returns-then-position-len c = on_ok_weaker c.put_up.result (changed_there c.args.wires.now.items c.args.position (put_up c.args.bytes.now) c.index_mut.result.now c.put_up.new.self (omega arith) c.index_mut.ensures.value) c.put_up.ensures
