use Rattle.std.proofs.Common.{None, ap, ◌∙◌}
use Rattle.cl_core.specs.Values.{ClientValue}
use Rattle.cmd_network.proofs.Puts.{seen}
use Rattle.cmd_network.specs.Devices.{DeviceState, closes_here}
use Rattle.cmd_network.proofs.device.Device.close.Goals as goal

pub returns-clause-device : goal.returns-clause-device
returns-clause-device c =
    let d : DeviceState = seen c.self.inside in
    ap (λ (x : ClientValue). record d { client = x; here = None }) c.in_ok-put.ensures.client
    ∙ ap (λ (e : DeviceState). (closes_here e).device) c.self.view_is

pub returns-clause-put : goal.returns-clause-put
returns-clause-put c = c.in_ok-put.ensures.put ∙ ap (λ (e : DeviceState). (closes_here e).put) c.self.view_is
