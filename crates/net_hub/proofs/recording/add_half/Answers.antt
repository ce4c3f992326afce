use Rattle.net_hub.proofs.recording.add_half.Goals as goal

pub returns-clause-added : goal.returns-clause-added
returns-clause-added g c = record { sender = c.new-sender.result; added = c.in_ok-push.ensures.items; half_is = c.new-sender.ensures.half; sent = c.new-sender.ensures.sent }
