use Rattle.law_server.proofs.OwnActs.{of_own}
use Rattle.law_server.proofs.server_tables.requests_are_of_their_session.Goals as goal

pub returns : goal.returns
returns g c = of_own
