use Rattle.law_limits.proofs.NamesWithin.{account_within, address_within, text_within}
use Rattle.law_limits.proofs.schedules_fit.schedules_keep_to_the_bounds.Goals as goal

pub returns : goal.returns
returns c = record { account = account_within; address = address_within; text = text_within }
