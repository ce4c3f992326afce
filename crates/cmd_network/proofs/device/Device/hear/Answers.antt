use Rattle.std.proofs.Common.{ap, ◌∙◌}
use Rattle.cl_core.specs.Values.{ClientValue}
use Rattle.cmd_network.proofs.Puts.{seen}
use Rattle.cmd_network.specs.Devices.{DeviceState, hears, unless_left}
use Rattle.cmd_network.proofs.device.Device.hear.Goals as goal

pub returns-clause-device : goal.returns-clause-device
returns-clause-device c =
    let d : DeviceState = seen c.self.inside in
    c.leave_with_client.ensures ∙ ap (λ (x : ClientValue). unless_left (record d { client = x })) c.in_ok-put.ensures.client
    ∙ ap (λ (e : DeviceState). (hears c.args.piece.now e).device) c.self.view_is

pub returns-clause-put : goal.returns-clause-put
returns-clause-put c = c.in_ok-put.ensures.put ∙ ap (λ (e : DeviceState). (hears c.args.piece.now e).put) c.self.view_is
