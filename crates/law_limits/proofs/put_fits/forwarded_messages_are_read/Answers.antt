use Rattle.law_limits.proofs.Forwarding.{entry_read}
use Rattle.law_limits.proofs.Passing.{copy_read, passed_read}
use Rattle.law_limits.proofs.put_fits.forwarded_messages_are_read.Goals as goal

pub returns : goal.returns
returns c = record { passed = passed_read; copied = copy_read; result = entry_read }
