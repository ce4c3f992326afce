use Rattle.std.proofs.Common.{◌-◌}
use Rattle.sm_acks.proofs.Paths.{IsTaken, ends_as, taken_from}
use Rattle.sm_acks.proofs.nodes.Ends.take.Goals as goal
use Rattle.sm_acks.proofs.nodes.Ends.take.Goals.{After-self-2-1}

taken : (c : After-self-2-1) → IsTaken c.args.nodes.now.slots c.remove-bytes.new.self.slots (ends_as c.args.self.now.first c.args.self.now.last c.args.self.now.len)
    (ends_as c.remove-bytes.result.next c.args.self.now.last (c.args.self.now.len - 1)) c.remove-bytes.result
taken c =
    let e = c.args.self.now in
    let h = c.requires.linked in
    taken_from c.args.nodes.now.slots c.remove-bytes.new.self.slots e.len e.first e.last c.remove-bytes.result c.requires.some
    (record { held = h.held; once = h.once; ended = h.ended }) c.remove-bytes.ensures.value c.remove-bytes.ensures.updates.others

pub returns-clause-linked : goal.returns-clause-linked
returns-clause-linked c = (taken c).linked

pub returns-clause-path : goal.returns-clause-path
returns-clause-path c = (taken c).path

pub returns-clause-stanzas : goal.returns-clause-stanzas
returns-clause-stanzas c = (taken c).stanzas
