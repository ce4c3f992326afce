use Rattle.net_hub.proofs.MoreKept.{kept_none}
use Rattle.net_hub.proofs.recorder.Recorder.new.Goals as goal

pub returns-clause-kept : goal.returns-clause-kept
returns-clause-kept g c = kept_none g.O.Outgoing.told c.args.file c.new-events.result.items c.in_ok-server.server c.new-senders.result.items c.requires.right c.requires.few
    c.new-events.ensures.items c.new-senders.ensures.items c.in_ok-server.ensures
