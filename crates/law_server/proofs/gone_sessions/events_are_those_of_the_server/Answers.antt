use Rattle.law_server.proofs.EventsMade.{stopped, taken}
use Rattle.law_server.proofs.gone_sessions.events_are_those_of_the_server.Goals as goal

pub returns : goal.returns
returns g c = record { taken = taken; stopped = stopped }
