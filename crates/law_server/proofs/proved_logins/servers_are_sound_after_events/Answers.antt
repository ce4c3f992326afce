use Rattle.law_server.proofs.ProvedEvents.{sound_after}
use Rattle.law_server.proofs.proved_logins.servers_are_sound_after_events.Goals as goal

pub returns : goal.returns
returns g c say domain accounts keep events may = sound_after say domain accounts keep events may
