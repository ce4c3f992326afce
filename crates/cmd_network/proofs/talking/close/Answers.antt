use Rattle.cl_core.specs.UserCalls.{closes}
use Rattle.cl_handlers.specs.Speech.{in_bytes}
use Rattle.cmd_network.proofs.Puts.{client_is, put_is}
use Rattle.cmd_network.proofs.talking.close.Goals as goal

pub returns-clause-client : goal.returns-clause-client
returns-clause-client c =
    client_is (closes in_bytes) c.args.client.now c.close.new.self c.silence-out.result c.close.new.out (c.silence-out.ensures c.args.client.now) c.in_ok-close.ensures.ok

pub returns-clause-put : goal.returns-clause-put
returns-clause-put c =
    put_is (closes in_bytes) c.args.client.now c.close.new.self c.silence-out.result c.close.new.out (c.silence-out.ensures c.args.client.now) c.in_ok-close.ensures.ok
