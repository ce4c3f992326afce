use Rattle.sim_5_devices.proofs.Rest.{short_queue}
use Rattle.sim_5_devices.proofs.links_in_time.queues_are_short.Goals as goal

pub returns : goal.returns
returns c = λ who logins d v reached represents. short_queue who logins d v reached represents
