use Rattle.std.proofs.Common.{◌≡◌, true, []}
use Rattle.crossbeam_channel.specs.Claims.{view, IsSeatAt}
use Rattle.crossbeam_channel.specs.Ends.{receives_on}
use Rattle.net_writers.specs.Takings.{are_puts, bytes_of, has_taken}
use Rattle.net_writers.specs.Sent.{HasSent}
use Rattle.net_writers.proofs.writing.write_on.Given as goal

-- what was taken so far was sent
abbrev pub invariant-loop : goal.invariant-loop
invariant-loop g l = record {
  channel : IsSeatAt (receives_on l.at) l.pass;
  shape : view l.pass ≡ has_taken (view l.pass).got;
  puts : are_puts (view l.pass).got ≡ true;
  sent : HasSent [] l.fn.sender.broken (g.O.Outgoing.told l.fn.sender.half) → HasSent (bytes_of (view l.pass).got) l.sender.broken (g.O.Outgoing.told l.sender.half);
  number : (g.O.Outgoing.told l.sender.half).number ≡ (g.O.Outgoing.told l.fn.sender.half).number;
}
