use Rattle.std.proofs.Common.{ap}
use Rattle.cl_core.specs.Values.{ClientValue}
use Rattle.cmd_network.proofs.Puts.{lost_is, seen}
use Rattle.cmd_network.specs.Devices.{DeviceState}
use Rattle.cmd_network.proofs.device.Device.lose.Goals as goal

pub returns : goal.returns
returns c =
    let d : DeviceState = seen c.self.inside in
    rw (← c.self.view_is)
    (ap (λ (x : ClientValue). record d { client = x }) (lost_is d.client c.gone.new.self c.gone.ensures))
