use Rattle.std.proofs.Common.{◌+◌, [], ◌∷◌, ◌++◌, ap, sym, ◌∙◌, subst, arith}
use Rattle.net_owner.proofs.OwnerSteps.{on_ok}
use Rattle.net_hub.proofs.MoreKept.{fresh, halves_after, kept_connect, many, numbers_more}
use Rattle.net_hub.proofs.recorder.Recorder.begin.Goals as goal
use Rattle.net_hub.specs.Records.{AddsHalf, IsKeptBy, views_of}

pub returns-clause-half : goal.returns-clause-half
returns-clause-half g c = on_ok c.add_half.result (numbers_more g.O.Outgoing.told c.args.half c.args.self.now.senders.items c.add_half.new.senders.items) c.add_half.ensures.added

pub returns-clause-halves : goal.returns-clause-halves
returns-clause-halves g c = halves_after g.O.Outgoing.told c.args.half c.add_half.result c.args.self.now.senders.items c.add_half.new.senders.items c.add_half.ensures.added c.add_half.ensures.err

pub returns-clause-kept : goal.returns-clause-kept
returns-clause-kept g c = λ moments drawn kept.
    let told = g.O.Outgoing.told in let old = c.args.self.now in
    on_ok c.add_half.result (λ (adds : AddsHalf told c.args.half old.senders.items c.add_half.new.senders.items).
    subst (λ es. IsKeptBy told (moments ++ c.args.now ∷ []) (drawn ++ c.args.entropy.now) old.file es c.connect.new.self c.add_half.new.senders.items) (sym c.in_ok-add_event.ensures)
    (kept_connect told moments drawn old.file (views_of old.events.items) old.server old.senders.items kept c.args.k c.args.now c.args.entropy.now c.connect.new.self c.add_half.new.senders.items adds.sender
    (c.requires.position ∙ ap (λ n. n + 1) (many told old.senders.items)) (omega (arith, c.if-k-gt-LAST_CONNECTION.false)) c.requires.moment c.requires.entropy.1 c.requires.entropy.0 c.in_ok-connect.ensures.ok adds.added adds.sent)) c.add_half.ensures.added

pub connect-requires-clause-fresh : goal.connect-requires-clause-fresh
connect-requires-clause-fresh g c =
    let told = g.O.Outgoing.told in let old = c.args.self.now in let kept = c.requires.kept in
    (fresh told kept.0 kept.1 old.file (views_of old.events.items) old.server old.senders.items c.args.k c.args.now c.args.entropy.now kept.2
    (c.requires.position ∙ ap (λ n. n + 1) (many told old.senders.items)) (omega (arith, c.if-k-gt-LAST_CONNECTION.false)) c.requires.moment c.requires.entropy.1 c.requires.entropy.0).0

pub connect-requires-clause-unframed : goal.connect-requires-clause-unframed
connect-requires-clause-unframed g c =
    let told = g.O.Outgoing.told in let old = c.args.self.now in let kept = c.requires.kept in
    (fresh told kept.0 kept.1 old.file (views_of old.events.items) old.server old.senders.items c.args.k c.args.now c.args.entropy.now kept.2
    (c.requires.position ∙ ap (λ n. n + 1) (many told old.senders.items)) (omega (arith, c.if-k-gt-LAST_CONNECTION.false)) c.requires.moment c.requires.entropy.1 c.requires.entropy.0).1
