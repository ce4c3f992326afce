use Rattle.std.proofs.Common.{◌≡◌, ◌<◌, ◌⊎◌, length, refl, subst}
use Rattle.net_hub.proofs.AllSent.{none_sent, numbers_set, one_sent}
use Rattle.net_hub.proofs.Closed.{one_stays}
use Rattle.net_hub.proofs.sending.put.Goals as goal

pub index_mut-requires : goal.index_mut-requires
index_mut-requires g c = subst (λ n. c.in-Some.index < n) c.as_slice.ensures.len c.in-Some.ensures.1

pub returns-in-Some-clause-numbers : goal.returns-in-Some-clause-numbers
returns-in-Some-clause-numbers g c =
    numbers_set g.O.Outgoing.told c.args.senders.now.items c.in-Some.index c.index_mut.result.now c.put.new.self
    (subst (λ l. c.in-Some.index < length l) c.as_slice.ensures.value c.in-Some.ensures.1) c.index_mut.ensures.value c.put.ensures.number

pub returns-in-Some-clause-sent : goal.returns-in-Some-clause-sent
returns-in-Some-clause-sent g c =
    one_sent g.O.Outgoing.told c.args.senders.now.items _ c.in-Some.index c.args.conn c.index_mut.result.now c.put.new.self c.args.bytes.now c.in-Some.ensures.0
    (subst (λ l. c.in-Some.index < length l) c.as_slice.ensures.value c.in-Some.ensures.1) c.index_mut.ensures.value refl c.put.ensures.sent

pub returns-in-None-clause-sent : goal.returns-in-None-clause-sent
returns-in-None-clause-sent g c =
    none_sent g.O.Outgoing.told c.args.senders.now.items c.args.conn c.args.bytes.now (subst (λ l. (c.args.conn ≡ 0) ⊎ (length l < c.args.conn)) c.as_slice.ensures.value c.in-None.ensures)

pub returns-in-Some-clause-closed : goal.returns-in-Some-clause-closed
returns-in-Some-clause-closed g c =
    one_stays g.O.Outgoing.closed c.args.senders.now.items c.in-Some.index c.index_mut.result.now c.put.new.self
    (subst (λ l. c.in-Some.index < length l) c.as_slice.ensures.value c.in-Some.ensures.1) c.index_mut.ensures.value c.put.ensures.closed
