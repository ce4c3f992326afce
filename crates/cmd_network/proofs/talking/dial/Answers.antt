use Rattle.cl_core.specs.UserCalls.{dials}
use Rattle.cl_handlers.specs.Speech.{in_bytes}
use Rattle.cmd_network.proofs.Puts.{client_is, put_is}
use Rattle.cmd_network.proofs.talking.dial.Goals as goal

pub returns-clause-client : goal.returns-clause-client
returns-clause-client c =
    client_is (dials in_bytes c.args.entropy.now) c.args.client.now c.dial.new.self c.silence-out.result c.dial.new.out (c.silence-out.ensures c.args.client.now) c.in_ok-dial.ensures.ok

pub returns-clause-put : goal.returns-clause-put
returns-clause-put c =
    put_is (dials in_bytes c.args.entropy.now) c.args.client.now c.dial.new.self c.silence-out.result c.dial.new.out (c.silence-out.ensures c.args.client.now) c.in_ok-dial.ensures.ok
