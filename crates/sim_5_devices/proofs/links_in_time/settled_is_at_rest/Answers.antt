use Rattle.sim_5_devices.proofs.Rest.{settled_rests}
use Rattle.sim_5_devices.proofs.links_in_time.settled_is_at_rest.Goals as goal

pub returns : goal.returns
returns c = λ v k conn d reached device at is flows no_up no_down. settled_rests v k conn d reached device at is flows no_up no_down
