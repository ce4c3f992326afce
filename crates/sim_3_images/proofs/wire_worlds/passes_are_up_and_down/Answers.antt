use Rattle.sim_3_images.proofs.ClientSteps.{passes_count, passes_down, passes_up}
use Rattle.sim_3_images.proofs.wire_worlds.passes_are_up_and_down.Goals as goal

pub returns : goal.returns
returns c = record { count = passes_count; up = passes_up; down = passes_down }
