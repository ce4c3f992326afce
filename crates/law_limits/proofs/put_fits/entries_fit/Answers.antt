use Rattle.law_limits.proofs.Forwarding.{entry_fits, numbered_fits}
use Rattle.law_limits.proofs.put_fits.entries_fit.Goals as goal

pub returns : goal.returns
returns c = record { entry = entry_fits; numbered = numbered_fits }
