use Rattle.std.proofs.Common.{◌+◌, IsSome, sym}
use Rattle.std.proofs.lemmas.List.{append-nil}
use Rattle.sm_acks.specs.Arena.{node_at, stanzas_at}
use Rattle.sm_acks.proofs.Paths.{IsJoined, ends_as, joined_from, last_held, leaves_by, relinked_by, stanzas_none}
use Rattle.sm_acks.proofs.nodes.Ends.join.Goals as goal
use Rattle.sm_acks.proofs.nodes.Ends.join.Goals.{After-self-2-1}

pub returns-then-following-eq0-clause-stanzas : goal.returns-then-following-eq0-clause-stanzas
returns-then-following-eq0-clause-stanzas c =
    rw (stanzas_none c.args.nodes.now.slots c.args.following c.if-following-eq0.true) (sym (append-nil (stanzas_at c.args.nodes.now.slots c.args.self.now)))

pub returns-then-self-eq0-clause-stanzas : goal.returns-then-self-eq0-clause-stanzas
returns-then-self-eq0-clause-stanzas c = rw (stanzas_none c.args.nodes.now.slots c.args.self.now c.if-self-eq0.true)

pub link-requires : goal.link-requires
link-requires c =
    let e = c.args.self.now in
    let h = c.requires.linked in
    last_held c.args.nodes.now.slots e.len e.first e.last c.if-self-eq0.false (record { held = h.held; once = h.once; ended = h.ended })

there : (c : After-self-2-1) → IsSome (node_at c.args.nodes.now.slots c.args.self.now.last)
there c =
    let e = c.args.self.now in
    let h = c.requires.linked in
    last_held c.args.nodes.now.slots e.len e.first e.last c.if-self-eq0.false (record { held = h.held; once = h.once; ended = h.ended })

joined : (c : After-self-2-1) → IsJoined c.args.nodes.now.slots c.link.new.nodes.slots (ends_as c.args.self.now.first c.args.self.now.last c.args.self.now.len)
    (ends_as c.args.following.first c.args.following.last c.args.following.len) (ends_as c.args.self.now.first c.args.following.last (c.args.self.now.len + c.args.following.len))
joined c =
    let e = c.args.self.now in
    let f = c.args.following in
    let h = c.requires.linked in
    let b = c.requires.following in
    joined_from c.args.nodes.now.slots c.link.new.nodes.slots e.len f.len e.first e.last f.first f.last c.if-self-eq0.false c.if-following-eq0.false
    (record { held = h.held; once = h.once; ended = h.ended }) (record { held = b.held; once = b.once; ended = b.ended }) c.requires.apart
    (relinked_by c.args.nodes.now c.link.new.nodes e.last f.first (there c) c.link.ensures)

pub returns-clause-linked : goal.returns-clause-linked
returns-clause-linked c = (joined c).linked

pub returns-clause-path : goal.returns-clause-path
returns-clause-path c = (joined c).path

pub returns-clause-stanzas : goal.returns-clause-stanzas
returns-clause-stanzas c = (joined c).stanzas

pub returns-clause-others : goal.returns-clause-others
returns-clause-others c =
    let e = c.args.self.now in
    leaves_by c.args.nodes.now c.link.new.nodes e.len e.first e.last c.args.following.first c.if-self-eq0.false c.requires.linked.ended (there c) c.link.ensures
