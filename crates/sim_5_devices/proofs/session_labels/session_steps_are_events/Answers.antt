use Rattle.sim_5_devices.proofs.Worlds.{acted_alone, session_steps_reach}
use Rattle.sim_5_devices.proofs.session_labels.session_steps_are_events.Goals as goal

pub returns : goal.returns
returns c = record { session_steps = session_steps_reach; alone = acted_alone }
