use Rattle.sim_3_images.specs.EncodingsCores.{Among}
use Rattle.sim_3_images.proofs.FittingEncodings.{encodes_fits, start_fits}
use Rattle.sim_3_images.proofs.MoveSteps.{move_fits, moves_fit}
use Rattle.sim_3_images.proofs.limits.worlds_fit.Goals as goal

pub returns : goal.returns
returns g c = record {
  one = λ up down server_state client keep any m w fits may. move_fits (Among up) (Among down) (Among server_state) (Among client) keep any m w fits may;
  many = λ up down server_state client keep any ms w fits may. moves_fit (Among up) (Among down) (Among server_state) (Among client) keep any ms w fits may;
  start = λ up down server_state client schedule keep. start_fits (Among up) (Among down) (Among server_state) (Among client) schedule keep;
  encodes = λ up down server_state client w v encodes. encodes_fits (Among up) (Among down) (Among server_state) (Among client) w v encodes;
}
