use Rattle.law_limits.proofs.ShortReads.{answerable}
use Rattle.law_limits.proofs.client_fits.what_is_short_can_be_answered.Goals as goal

pub returns : goal.returns
returns c = answerable
