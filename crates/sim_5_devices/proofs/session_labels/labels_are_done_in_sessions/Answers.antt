use Rattle.sim_5_devices.proofs.SessionLabelsSteps.{moves_done}
use Rattle.sim_5_devices.proofs.session_labels.labels_are_done_in_sessions.Goals as goal

pub returns : goal.returns
returns g c = λ r moves v last d reached along a. moves_done r moves v last d reached along a
