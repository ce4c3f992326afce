use Rattle.std.proofs.Common.{Some, ap, ◌∙◌}
use Rattle.cl_core.specs.Values.{ClientValue}
use Rattle.cmd_network.proofs.Puts.{seen}
use Rattle.cmd_network.specs.Devices.{DeviceState, dials_at}
use Rattle.cmd_network.proofs.device.Device.dial.Goals as goal

pub returns-clause-device : goal.returns-clause-device
returns-clause-device c =
    let d : DeviceState = seen c.self.inside in
    ap (λ (x : ClientValue). record d { client = x; here = Some c.args.position; newest = Some c.args.position }) c.in_ok-put.ensures.client
    ∙ ap (λ (e : DeviceState). (dials_at c.args.entropy.now c.args.position e).device) c.self.view_is

pub returns-clause-put : goal.returns-clause-put
returns-clause-put c = c.in_ok-put.ensures.put ∙ ap (λ (e : DeviceState). (dials_at c.args.entropy.now c.args.position e).put) c.self.view_is
