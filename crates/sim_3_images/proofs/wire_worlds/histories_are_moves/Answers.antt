use Rattle.sim_3_images.proofs.Trails.{ends, follow}
use Rattle.sim_3_images.proofs.wire_worlds.histories_are_moves.Goals as goal

pub returns : goal.returns
returns c = record { moves = follow; last = ends }
