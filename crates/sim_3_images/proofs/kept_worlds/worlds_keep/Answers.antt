use Rattle.sim_3_images.proofs.MovesKept.{kept_after, kept_first}
use Rattle.sim_3_images.proofs.kept_worlds.worlds_keep.Goals as goal

pub returns : goal.returns
returns g = record { begins = kept_first; moves = kept_after }
