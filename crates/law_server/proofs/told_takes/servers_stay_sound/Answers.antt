use Rattle.law_server.proofs.SoundEvents.{sound_at_moment, sound_at_start, sound_connect, sound_gone_now}
use Rattle.law_server.proofs.told_takes.servers_stay_sound.Goals as goal

pub returns : goal.returns
returns g c = record { start = sound_at_start; connect = sound_connect; gone = sound_gone_now; moment = sound_at_moment }
