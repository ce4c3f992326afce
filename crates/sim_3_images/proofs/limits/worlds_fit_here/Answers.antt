use Rattle.sim_3_images.specs.Relayable.{ClientFits, DownFits, ServerFits, UpFits}
use Rattle.sim_3_images.specs.ItemStarts.{items_at_start}
use Rattle.sim_3_images.proofs.FittingEncodings.{begun_fits, client_within, down_answered, encodes_fits, keep_here, next_answered, takes_any}
use Rattle.sim_3_images.proofs.MoveSimulates.{runs_may}
use Rattle.sim_3_images.proofs.MoveSteps.{move_fits, moves_fit}
use Rattle.sim_3_images.proofs.limits.worlds_fit_here.Goals as goal

pub returns : goal.returns
returns c = record {
  one = move_fits UpFits DownFits ServerFits ClientFits keep_here takes_any;
  many = moves_fit UpFits DownFits ServerFits ClientFits keep_here takes_any;
  start = begun_fits;
  reached = λ schedule ms is may. moves_fit UpFits DownFits ServerFits ClientFits keep_here takes_any ms (items_at_start schedule) (begun_fits schedule is) may;
  encodes = encodes_fits UpFits DownFits ServerFits ClientFits;
  runs = runs_may;
  client = client_within;
  answered = down_answered;
  next = next_answered;
}
