use Rattle.law_restart.proofs.Owned.{owned_events}
use Rattle.law_restart.proofs.laws.archives_stay_with_their_accounts.Goals as goal

pub returns : goal.returns
returns g c say events r = owned_events say events r
