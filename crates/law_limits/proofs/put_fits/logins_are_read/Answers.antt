use Rattle.law_limits.proofs.Logins.{carrier_read, failure_read, printable_bytes}
use Rattle.law_limits.proofs.put_fits.logins_are_read.Goals as goal

pub returns : goal.returns
returns c = record { carrier = λ name payload w h short. carrier_read name payload w (printable_bytes payload h) short; failure = failure_read }
