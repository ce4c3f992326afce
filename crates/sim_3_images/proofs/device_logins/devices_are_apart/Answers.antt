use Rattle.sim_3_images.proofs.ScheduleLogins.{are_two}
use Rattle.sim_3_images.proofs.device_logins.devices_are_apart.Goals as goal

pub returns : goal.returns
returns c = are_two
