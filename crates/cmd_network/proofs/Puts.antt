-- Calls of a client before which nothing was put and nothing told.
use Rattle.std.proofs.Common.{◌≡◌, ℕ, List, [], ap, ◌∙◌}
use Rattle.cl_core.specs.Feeds.{Fed}
use Rattle.cl_core.specs.UserCalls.{leaves}
use Rattle.cl_core.specs.Values.{ClientValue, fed_of}
use Rattle.cl_handlers.specs.declared.events.ClientOut.{ClientOut}
use Rattle.cmd_network.specs.Devices.{DeviceState, client_after, silent}
use Rattle.cmd_network.specs.declared.device.Device.TheInside.{Inside}

-- what clauses see of a device
abbrev pub seen : Inside → DeviceState
seen i = record { name = i.name; account = i.account; client = i.client; here = i.here; newest = i.newest; refused = i.refused.items }

abbrev pub F : Type 0
F = Fed (List ℕ) ℕ

pub client_is : (step : F → F) (old new : ClientValue) (before after : ClientOut) → fed_of old before ≡ silent old → fed_of new after ≡ step (fed_of old before)
    → client_after (fed_of new after) ≡ client_after (step (silent old))
client_is step old new before after quiet is = ap client_after (is ∙ ap step quiet)

pub put_is : (step : F → F) (old new : ClientValue) (before after : ClientOut) → fed_of old before ≡ silent old → fed_of new after ≡ step (fed_of old before)
    → after.bytes.items ≡ (step (silent old)).turn.out.put
put_is step old new before after quiet is = ap (λ (f : F). f.turn.out.put) (is ∙ ap step quiet)

-- a connection that is lost, whatever was put before
pub nothing_out : ClientOut
nothing_out = record { bytes = record { items = []; spare = 0 }; events = record { items = []; spare = 0 } }

pub lost_is : (old new : ClientValue) → ((out : ClientOut) → fed_of new out ≡ leaves (fed_of old out)) → client_after (fed_of new nothing_out) ≡ client_after (leaves (silent old))
lost_is old new is = ap client_after (is nothing_out)
