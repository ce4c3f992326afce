use Rattle.law_server.proofs.EventsRendered.{bytes_rendered, fault_rendered, item_rendered, piece_rendered, turn_rendered}
use Rattle.law_server.proofs.server_maps.events_are_the_same_however_written.Goals as goal

pub returns : goal.returns
returns g c = record { item = item_rendered; fault = fault_rendered; turn = turn_rendered; piece = piece_rendered; bytes = bytes_rendered }
