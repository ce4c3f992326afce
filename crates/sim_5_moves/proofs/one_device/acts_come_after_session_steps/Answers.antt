use Rattle.sim_5_moves.proofs.Acting.{act_reaches, act_spoken}
use Rattle.sim_5_moves.proofs.one_device.acts_come_after_session_steps.Goals as goal

pub returns : goal.returns
returns c = record { reaches = act_reaches; spoken = act_spoken }
