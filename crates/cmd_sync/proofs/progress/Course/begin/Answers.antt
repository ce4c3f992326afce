use Rattle.std.proofs.Common.{arith}
use Rattle.cl_core.specs.Values.{fed_of}
use Rattle.cmd_sync.proofs.Stands.{begun_is}
use Rattle.cmd_sync.proofs.progress.Course.begin.Goals as goal

pub returns : goal.returns
returns c =
    begun_is c.args.client c.dial.new.self c.dial.new.out (fed_of c.args.client c.nothing-out.result) c.args.entropy.now c.from_vec.result.items c.args.steps.items
    (c.nothing-out.ensures c.args.client) c.in_ok-dial.ensures.ok (grind arith)
