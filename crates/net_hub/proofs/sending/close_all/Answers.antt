use Rattle.std.proofs.Common.{◌∙◌, length, ap, arith}
use Rattle.net_hub.proofs.Closed.{as_many, next_is}
use Rattle.net_hub.proofs.sending.close_all.Goals as goal

pub loop-conn-preserved : goal.loop-conn-preserved
loop-conn-preserved g c = record {
  numbers = c.close.ensures.numbers ∙ c.loop-conn.invariant.numbers;
  closed = next_is g.O.Outgoing.closed c.loop-conn.conn c.loop-conn.senders.items c.close.new.senders.items (as_many g.O.Outgoing.told c.loop-conn.senders.items c.close.new.senders.items c.close.ensures.numbers)
      c.close.ensures.closed c.close.ensures.this c.loop-conn.invariant.closed;
}

pub returns-clause-closed : goal.returns-clause-closed
returns-clause-closed g c i below =
    let many = as_many g.O.Outgoing.told c.args.senders.now.items c.loop-conn.senders.items c.loop-conn.invariant.numbers in
    let count = ap length c.as_slice.ensures.value in let over = c.loop-conn-test.false in
    c.loop-conn.invariant.closed i (omega (arith, below, many, count, over)) below
