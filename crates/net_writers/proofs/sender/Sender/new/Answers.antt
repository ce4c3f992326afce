use Rattle.net_writers.proofs.SentBytes.{unused}
use Rattle.net_writers.proofs.sender.Sender.new.Goals as goal

pub returns-clause-sent : goal.returns-clause-sent
returns-clause-sent g c = λ none. unused (g.O.Outgoing.told c.args.half) none
