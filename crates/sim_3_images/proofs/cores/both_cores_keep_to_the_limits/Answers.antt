use Rattle.sim_3_images.proofs.AnsweredTable.{what_a_server_says_is_answered}
use Rattle.sim_3_images.proofs.Keeping.{cores_keep}
use Rattle.sim_3_images.proofs.RelayableSteps.{client_is_relayable}
use Rattle.sim_3_images.proofs.Starts.{start_keeps}
use Rattle.sim_3_images.proofs.cores.both_cores_keep_to_the_limits.Goals as goal

pub returns : goal.returns
returns c = record {
  client = client_is_relayable;
  server = what_a_server_says_is_answered;
  keep = cores_keep what_a_server_says_is_answered client_is_relayable;
  start = start_keeps;
}
