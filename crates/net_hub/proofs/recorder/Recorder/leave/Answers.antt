use Rattle.std.proofs.Common.{◌≤◌, [], ◌∷◌, ◌++◌, sym, subst}
use Rattle.net_owner.proofs.OwnerSteps.{on_ok}
use Rattle.net_hub.proofs.MoreKept.{kept_gone, many}
use Rattle.net_hub.proofs.recorder.Recorder.leave.Goals as goal
use Rattle.net_hub.specs.Records.{IsKeptBy, views_of}

pub returns-clause-kept : goal.returns-clause-kept
returns-clause-kept g c = λ moments drawn kept.
    let told = g.O.Outgoing.told in let old = c.args.self.now in
    on_ok c.add_event.result (λ more.
    subst (λ es. IsKeptBy told (moments ++ c.args.now ∷ []) drawn old.file es c.gone.new.self c.close.new.senders.items) (sym more)
    (kept_gone told moments drawn old.file (views_of old.events.items) old.server old.senders.items kept c.args.k c.args.now c.gone.new.self c.close.new.senders.items
    c.requires.position.0 (subst (λ n. c.args.k ≤ n) (many told old.senders.items) c.requires.position.1) c.requires.moment c.gone.ensures c.close.ensures.numbers c.close.ensures.sent)) c.add_event.ensures
