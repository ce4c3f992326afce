use Rattle.sim_3_images.proofs.ClientSteps.{rounds_count, rounds_down, rounds_up}
use Rattle.sim_3_images.proofs.wire_worlds.runs_are_passes_of_each.Goals as goal

pub returns : goal.returns
returns c = record { count = rounds_count; up = rounds_up; down = rounds_down }
