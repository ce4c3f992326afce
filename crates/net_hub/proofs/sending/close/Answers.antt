use Rattle.std.proofs.Common.{◌≡◌, ◌<◌, ◌⊎◌, ⊎_elim, length, ap, arith, refl, subst}
use Rattle.net_hub.proofs.AllSent.{numbers_set, one_closed}
use Rattle.net_hub.proofs.Closed.{one_is, one_stays}
use Rattle.net_hub.proofs.sending.close.Goals as goal

pub index_mut-requires : goal.index_mut-requires
index_mut-requires g c = subst (λ n. c.in-Some.index < n) c.as_slice.ensures.len c.in-Some.ensures.1

pub returns-in-Some-clause-numbers : goal.returns-in-Some-clause-numbers
returns-in-Some-clause-numbers g c =
    numbers_set g.O.Outgoing.told c.args.senders.now.items c.in-Some.index c.index_mut.result.now c.close.new.self
    (subst (λ l. c.in-Some.index < length l) c.as_slice.ensures.value c.in-Some.ensures.1) c.index_mut.ensures.value (ap (λ v. v.number) c.close.ensures.told)

pub returns-in-Some-clause-sent : goal.returns-in-Some-clause-sent
returns-in-Some-clause-sent g c =
    one_closed g.O.Outgoing.told c.args.senders.now.items _ c.in-Some.index c.index_mut.result.now c.close.new.self
    (subst (λ l. c.in-Some.index < length l) c.as_slice.ensures.value c.in-Some.ensures.1) c.index_mut.ensures.value refl c.close.ensures.told c.close.ensures.broken

pub returns-in-Some-clause-closed : goal.returns-in-Some-clause-closed
returns-in-Some-clause-closed g c =
    one_stays g.O.Outgoing.closed c.args.senders.now.items c.in-Some.index c.index_mut.result.now c.close.new.self
    (subst (λ l. c.in-Some.index < length l) c.as_slice.ensures.value c.in-Some.ensures.1) c.index_mut.ensures.value (λ _. c.close.ensures.closed)

pub returns-in-Some-clause-this : goal.returns-in-Some-clause-this
returns-in-Some-clause-this g c i is below =
    one_is g.O.Outgoing.closed c.args.senders.now.items c.in-Some.index i c.close.new.self
    (subst (λ l. c.in-Some.index < length l) c.as_slice.ensures.value c.in-Some.ensures.1) (omega (arith, is, c.in-Some.ensures.0)) c.close.ensures.closed

pub returns-in-None-clause-this : goal.returns-in-None-clause-this
returns-in-None-clause-this g c i is below =
    let out = subst (λ l. (c.args.conn ≡ 0) ⊎ (length l < c.args.conn)) c.as_slice.ensures.value c.in-None.ensures in
    absurd (⊎_elim (λ (e : c.args.conn ≡ 0). omega (arith, is, e)) (λ (e : length c.args.senders.now.items < c.args.conn). omega (arith, is, below, e)) out)
