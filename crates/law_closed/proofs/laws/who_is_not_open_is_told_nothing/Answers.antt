use Rattle.law_closed.proofs.UntoldRuns.{left_closed, quiet_later, shut_closed, stays_closed, told_nothing}
use Rattle.law_closed.proofs.laws.who_is_not_open_is_told_nothing.Goals as goal

pub returns : goal.returns
returns c = record { quiet = told_nothing; later = quiet_later; shut = shut_closed; gone = left_closed; stays = stays_closed }
