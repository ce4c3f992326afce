use Rattle.std.proofs.Common.{refl, inl}
use Rattle.cmd_sync.proofs.SyncedLogs.{begins_so, on_ok, read_ok, read_why, synced_err, synced_ok}
use Rattle.cmd_sync.proofs.running.sync.Goals as goal

pub returns-in-Err-clause-err : goal.returns-in-Err-clause-err
returns-in-Err-clause-err g c = read_why c.in-Err.fault c.args.script.now _ _ _ _ c.in-Err.ensures.err

pub returns-in-Err-fill-clause-err : goal.returns-in-Err-fill-clause-err
returns-in-Err-fill-clause-err g c = (read_ok c.args.script.now c.in-Ok.read.0 c.in-Ok.read.1.items c.in-Ok.ensures.ok, c.in-Err-fill.ensures.cause.failed, refl)

pub client_of-requires : goal.client_of-requires
client_of-requires g c = c.in-Ok.ensures.ok.may

pub returns-in-Err-client_of-clause-err : goal.returns-in-Err-client_of-clause-err
returns-in-Err-client_of-clause-err g c = (inl refl, c.in-Ok-fill.ensures.cause.quiet)

pub run-requires : goal.run-requires
run-requires g c = c.in-Ok.ensures.ok.may_all

pub returns-clause-ok : goal.returns-clause-ok
returns-clause-ok g c =
    synced_ok c.run.result (λ text. text.items) _ _ _ _ _ _
    (begins_so c.args.script.now (g.E.Entropy.drawn c.args.entropy.now) (g.E.Entropy.drawn c.fill.new.self) c.in-Ok.read.0 c.in-Ok.read.1.items c.in-Ok-client_of.client c.fill.new.out c.in-Ok.ensures.ok c.in-Ok-client_of.ensures c.in-Ok-fill.ensures.drawn)
    c.run.ensures.ok

pub returns-clause-quiet : goal.returns-clause-quiet
returns-clause-quiet g c = on_ok c.run.result c.in-Ok-fill.ensures.cause.quiet

pub returns-clause-err : goal.returns-clause-err
returns-clause-err g c =
    synced_err c.run.result _ _ _ _ _ _ _ _
    (begins_so c.args.script.now (g.E.Entropy.drawn c.args.entropy.now) (g.E.Entropy.drawn c.fill.new.self) c.in-Ok.read.0 c.in-Ok.read.1.items c.in-Ok-client_of.client c.fill.new.out c.in-Ok.ensures.ok c.in-Ok-client_of.ensures c.in-Ok-fill.ensures.drawn)
    c.in-Ok-fill.ensures.cause.quiet c.run.ensures.err

pub same-steps : goal.same-steps
same-steps g c = refl
