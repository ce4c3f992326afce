use Rattle.std.proofs.Common.{◌∙◌, ℕ, rules, subst, sym}
use Rattle.base_io.specs.Listed.{Listed}
use Rattle.net_hub.proofs.CountedLinks.{none_out}
use Rattle.net_hub.proofs.DoorFaults.{door_no_entropy, door_no_worker, door_refused, door_rose, none_fewer}
use Rattle.net_hub.proofs.JoinedReaders.{workers_again}
use Rattle.net_hub.proofs.Served.{served_again}
use Rattle.net_hub.proofs.together.serve_together.Goals as goal
use Rattle.cmd_journal.specs.AccountsFiles.{accounts_text}
use Rattle.net_hub.specs.Served.{IsRefusal}

pub serve_with-requires-clause-kept : goal.serve_with-requires-clause-kept
serve_with-requires-clause-kept g c = let kept = c.in-Ok-ready.ensures.kept in search (rules, kept)

pub returns-in-Ok-listen-clause-served : goal.returns-in-Ok-listen-clause-served
returns-in-Ok-listen-clause-served g c =
    let given = g.D.Door.given in let ran = c.serve_with.result in
    served_again (λ (t : Listed ℕ). t.items) given ran.0 ran.1 (accounts_text c.in-Ok-ready.recorder.file) c.args.accounts.now c.args.n
    (g.C.Clock.told c.args.clock.now) (g.E.Entropy.drawn c.args.entropy.now) (g.C.Clock.told c.serve_with.new.clock) (g.E.Entropy.drawn c.serve_with.new.entropy)
    (given c.listen.new.self) (given c.args.door) (c.in-Ok-ready.ensures.text ∙ sym c.in-Ok.ensures.found.1) c.listen.ensures.given c.serve_with.ensures.served

pub returns-in-Ok-listen-clause-workers : goal.returns-in-Ok-listen-clause-workers
returns-in-Ok-listen-clause-workers g c =
    workers_again g.D.Door.given c.serve_with.result.1 (g.D.Door.given c.listen.new.self) (g.D.Door.given c.args.door) _ _ c.listen.ensures.given c.serve_with.ensures.workers

pub returns-in-Err-listen-clause-bad : goal.returns-in-Err-listen-clause-bad
returns-in-Err-listen-clause-bad g c = subst (IsRefusal c.args.accounts.now) (sym c.of_door.ensures) (door_refused c.args.accounts.now c.in-Err-listen.fault)

pub returns-in-Err-listen-clause-link_fault : goal.returns-in-Err-listen-clause-link_fault
returns-in-Err-listen-clause-link_fault g c is =
    (door_rose c.in-Err-listen.fault c.of_door.result _ _ c.of_door.ensures is c.in-Err-listen.ensures.cause, none_fewer c.args.n _ _ c.in-Err-listen.ensures.given)

pub returns-in-Err-listen-clause-no_worker : goal.returns-in-Err-listen-clause-no_worker
returns-in-Err-listen-clause-no_worker g c is = absurd (door_no_worker c.in-Err-listen.fault c.of_door.result c.of_door.ensures is)

pub returns-in-Err-listen-clause-entropy_fault : goal.returns-in-Err-listen-clause-entropy_fault
returns-in-Err-listen-clause-entropy_fault g c is = absurd (door_no_entropy c.in-Err-listen.fault c.of_door.result c.of_door.ensures is)

pub returns-in-Err-listen-clause-all_back : goal.returns-in-Err-listen-clause-all_back
returns-in-Err-listen-clause-all_back g c worker entropy memory = none_out _ _ _ _ c.in-Err-listen.ensures.handed c.in-Err-listen.ensures.given
