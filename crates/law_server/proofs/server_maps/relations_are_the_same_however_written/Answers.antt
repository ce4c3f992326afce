use Rattle.law_server.proofs.EventsRendered.{after_rendered, stops_rendered}
use Rattle.law_server.proofs.server_maps.relations_are_the_same_however_written.Goals as goal

pub returns : goal.returns
returns g c = record { after = after_rendered; stops = stops_rendered }
