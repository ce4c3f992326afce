use Rattle.sim_3_images.proofs.DrawnLogins.{has_login}
use Rattle.sim_3_images.proofs.ScheduleLogins.{drawn_login}
use Rattle.sim_3_images.proofs.device_logins.logins_go_through.Goals as goal

pub returns : goal.returns
returns c = record { drawn = has_login; schedule = drawn_login }
