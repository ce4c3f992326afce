use Rattle.law_client.proofs.CallsMade.{caught_up_is, lost_is_cut, said_is}
use Rattle.law_client.proofs.client_tables.calls_are_those_of_the_client.Goals as goal

pub returns : goal.returns
returns g c = record { lost = lost_is_cut; said = said_is; caught_up = caught_up_is }
