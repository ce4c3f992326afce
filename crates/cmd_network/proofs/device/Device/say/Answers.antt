use Rattle.cmd_network.proofs.device.Device.say.Goals as goal

pub submit-requires : goal.submit-requires
submit-requires c = record { silent = c.silence-out.ensures }
