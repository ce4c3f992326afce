use Rattle.std.proofs.Common.{◌++◌, true, subst, sym}
use Rattle.net_writers.proofs.SentBytes.{stopped}
use Rattle.net_writers.proofs.sender.Sender.put.Goals as goal
use Rattle.net_writers.specs.Sent.{HasSent}

pub returns-in-Err-clause-sent : goal.returns-in-Err-clause-sent
returns-in-Err-clause-sent g c = λ before h.
    subst (HasSent (before ++ c.args.bytes.now) true) (sym c.close.ensures.told)
    (stopped c.args.self.now.broken before c.args.bytes.now (g.O.Outgoing.told c.args.self.now.half) (g.O.Outgoing.told c.write_whole.new.half) c.if-self.false
    c.in-Err.ensures.prefix c.in-Err.ensures.silent c.in-Err.ensures.cause.failed h)
