use Rattle.std.proofs.Common.{◌<◌, ◌++◌, [], cond, subst, sym}
use Rattle.srv_state.specs.State.{is_number}
use Rattle.net_hub.proofs.Closed.{as_many}
use Rattle.net_hub.proofs.sending.send.Goals as goal
use Rattle.net_hub.specs.Sendings.{HaveSent}

pub returns-then-bundle-clause-sent : goal.returns-then-bundle-clause-sent
returns-then-bundle-clause-sent g c = λ before have.
    c.close.ensures.sent (λ k. before k ++ cond (is_number k c.args.conn) c.args.bundle.now.bytes.items [])
    (subst (λ b. HaveSent g.O.Outgoing.told (λ k. before k ++ cond (is_number k c.args.conn) b []) c.put.new.senders.items) c.as_slice.ensures (c.put.ensures.sent before have))

pub returns-then-bundle-clause-closed : goal.returns-then-bundle-clause-closed
returns-then-bundle-clause-closed g c = λ i was. c.close.ensures.closed i (c.put.ensures.closed i was)

pub returns-then-bundle-clause-shut : goal.returns-then-bundle-clause-shut
returns-then-bundle-clause-shut g c is i position below =
    c.close.ensures.this i position (subst (λ n. i < n) (sym (as_many g.O.Outgoing.told c.args.senders.now.items c.put.new.senders.items c.put.ensures.numbers)) below)

pub returns-else-bundle-clause-sent : goal.returns-else-bundle-clause-sent
returns-else-bundle-clause-sent g c = λ before have.
    subst (λ b. HaveSent g.O.Outgoing.told (λ k. before k ++ cond (is_number k c.args.conn) b []) c.put.new.senders.items) c.as_slice.ensures (c.put.ensures.sent before have)
