use Rattle.cmd_network.proofs.device.Device.catch_up.Goals as goal

pub ask-requires-clause-silent : goal.ask-requires-clause-silent
ask-requires-clause-silent c = c.silence-out.ensures
