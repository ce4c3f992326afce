use Rattle.std.proofs.Common.{ap, ◌∙◌, subst, sym}
use Rattle.net_writers.specs.Sent.{HasSent}
use Rattle.net_writers.specs.Takings.{bytes_of}
use Rattle.net_writers.proofs.writing.WriterJobJob.work.Goals as goal

pub returns : goal.returns
returns g c = let told = g.O.Outgoing.told in let took = c.write_on.ensures.took in record {
  seat = c.write_on.ensures.channel;
  body = took.0;
  shape = took.1;
  puts = took.2;
  number = ap (λ v. v.number) c.close.ensures.told ∙ c.write_on.ensures.number ∙ ap (λ h. (told h).number) c.new-sender.ensures.half;
  broken = c.write_on.new.sender.broken;
  sent = λ none. subst (HasSent (bytes_of took.0) c.write_on.new.sender.broken) (sym c.close.ensures.told) (took.3 (c.new-sender.ensures.sent none));
  shut = c.close.ensures.closed;
}
