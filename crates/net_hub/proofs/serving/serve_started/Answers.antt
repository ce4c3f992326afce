use Rattle.std.proofs.Common.{sym}
use Rattle.net_hub.proofs.CountedLinks.{following}
use Rattle.net_hub.proofs.Served.{has_served, ok_then}
use Rattle.net_hub.proofs.serving.serve_started.Goals as goal
use Rattle.cmd_journal.specs.AccountsFiles.{accounts_text}
use Rattle.net_traits.proofs.ToldSince.{since_such}

pub returns-in-None-clause-served : goal.returns-in-None-clause-served
returns-in-None-clause-served g c =
    let since = c.in-Ok.ensures.right in let given = g.D.Door.given in
    let file = c.run.new.self.taker.file in
    ok_then _ _ c.finish.result.0
    (λ text is. since_such _ _ since
    (has_served (accounts_text c.args.owner.taker.file) file c.args.acceptor.count since.moments since.bytes (given c.args.acceptor.door) (given c.finish.result.1) text.items since.such.right (sym c.run.ensures.fixed) is))
    (c.finish.ensures.served since.moments since.bytes since.such)

pub finish-requires-clause-kept : goal.finish-requires-clause-kept
finish-requires-clause-kept g c = let since = c.in-Ok.ensures.right in (since.moments, since.bytes, since.such)

pub returns-in-None-clause-given : goal.returns-in-None-clause-given
returns-in-None-clause-given g c = following _ _ _ _ c.finish.ensures.all_back
