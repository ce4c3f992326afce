use Rattle.std.proofs.Common.{◌≡◌, length}
use Rattle.crossbeam_channel.specs.Claims.{view, IsSeatAt}
use Rattle.crossbeam_channel.specs.Ends.{sends_on}
use Rattle.net_owner.specs.Feeds.{bytes_of}
use Rattle.net_owner.specs.Readers.{IsReading}
use Rattle.net_owner.proofs.reading.read_on.Given as goal

abbrev pub invariant-loop : goal.invariant-loop
invariant-loop g l = IsSeatAt (sends_on l.to) l.pass × IsReading l.fn.from (view l.pass) (g.I.Incoming.told l.fn.half) (g.I.Incoming.told l.half) × (length (bytes_of (view l.pass).put) ≡ l.total)
