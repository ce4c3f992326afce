use Rattle.cl_core.specs.Feeds.{bytes_step}
use Rattle.cl_handlers.specs.Speech.{in_bytes}
use Rattle.cmd_network.proofs.Puts.{F, client_is, put_is}
use Rattle.cmd_network.proofs.talking.feed.Goals as goal

pub returns-clause-client : goal.returns-clause-client
returns-clause-client c =
    client_is (λ (f : F). bytes_step in_bytes f c.args.piece.now) c.args.client.now c.bytes.new.self c.silence-out.result c.bytes.new.out (c.silence-out.ensures c.args.client.now) c.in_ok-bytes.ensures.ok

pub returns-clause-put : goal.returns-clause-put
returns-clause-put c =
    put_is (λ (f : F). bytes_step in_bytes f c.args.piece.now) c.args.client.now c.bytes.new.self c.silence-out.result c.bytes.new.out (c.silence-out.ensures c.args.client.now) c.in_ok-bytes.ensures.ok
