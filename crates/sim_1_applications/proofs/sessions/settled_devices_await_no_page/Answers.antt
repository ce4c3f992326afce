use Rattle.sim_1_applications.specs.Devices.{first_of, last_of}
use Rattle.sim_1_applications.proofs.Follow.{settled}
use Rattle.sim_1_applications.proofs.TileRuns.{read_reached}
use Rattle.sim_1_applications.proofs.sessions.settled_devices_await_no_page.Goals as goal

pub returns : goal.returns
returns c = λ w reached i d at. settled w.keep (first_of w.keep (last_of w.takes d.account)) (last_of w.takes d.account) d ((read_reached w reached).devices i d at).page
