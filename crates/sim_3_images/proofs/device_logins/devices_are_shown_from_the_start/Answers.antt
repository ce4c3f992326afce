use Rattle.sim_3_images.proofs.FirstWorlds.{shown_first}
use Rattle.sim_3_images.proofs.device_logins.devices_are_shown_from_the_start.Goals as goal

pub returns : goal.returns
returns c = shown_first
