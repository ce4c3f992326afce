use Rattle.std.proofs.Common.{refl, sym, ap, subst, ◌∙◌, ◌≡◌, ◌++◌}
use Rattle.crossbeam_channel.specs.Claims.{view}
use Rattle.net_queues.specs.declared.rule.Side.{Side}
use Rattle.net_writers.specs.Sent.{HasSent}
use Rattle.net_writers.specs.Takings.{bytes_of}
use Rattle.net_writers.specs.declared.parcel.Parcel.{Parcel}
use Rattle.net_writers.specs.declared.parcel.Parcel.TheVariants.{Put, End}
use Rattle.net_writers.proofs.LongerTakings.{starts, goes_on, takes_on}
use Rattle.net_writers.proofs.writing.write_on.Goals as goal

pub loop-init : goal.loop-init
loop-init g c = let s = starts (view c.args.pass.now) c.requires.unused in record {
  channel = c.requires.channel;
  shape = s.0;
  puts = s.1;
  sent = λ h. subst (λ l. HasSent l c.args.sender.now.broken (g.O.Outgoing.told c.args.sender.now.half)) (sym s.2) h;
  number = refl;
}

pub take-requires-clause-may : goal.take-requires-clause-may
take-requires-clause-may g c = ap (λ (v : Side Parcel). v.takes) c.loop.invariant.shape

pub loop-preserved : goal.loop-preserved
loop-preserved g c =
    let told = g.O.Outgoing.told in
    let got = rw c.in-Put.is at c.take.ensures.got in
    let on = goes_on (view c.loop.pass) (view c.take.new.pass) (Put c.in-Put.bytes) c.loop.invariant.shape c.loop.invariant.puts got refl in
    record {
      channel = c.take.ensures.channel;
      shape = on.0;
      puts = on.1;
      sent = λ h. subst (λ l. HasSent l c.put.new.self.broken (told c.put.new.self.half)) (sym on.2)
          (subst (λ l. HasSent (bytes_of (view c.loop.pass).got ++ l) c.put.new.self.broken (told c.put.new.self.half)) c.as_slice.ensures (c.put.ensures.sent (bytes_of (view c.loop.pass).got) (c.loop.invariant.sent h)));
      number = c.put.ensures.number ∙ c.loop.invariant.number;
    }

pub returns-in-End-clause-took : goal.returns-in-End-clause-took
returns-in-End-clause-took g c =
    let got = rw c.in-End.is at c.take.ensures.got in
    ((view c.loop.pass).got, takes_on (view c.loop.pass) (view c.take.new.pass) End c.loop.invariant.shape got, c.loop.invariant.puts, c.loop.invariant.sent)
