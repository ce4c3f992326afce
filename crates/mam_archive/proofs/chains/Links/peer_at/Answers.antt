use Rattle.std.proofs.Common.{arith}
use Rattle.mam_archive.proofs.ChainSteps.{chain_peer, chain_within}
use Rattle.mam_archive.specs.Peers.{peer_of}
use Rattle.mam_archive.proofs.chains.Links.peer_at.Goals as goal

pub overflow_sub-position : goal.overflow_sub-position
overflow_sub-position c =
    let inside = chain_within c.args.first (peer_of c.args.owner.now) c.args.entries.now.items c.args.self.now.links.items c.args.self.now.chains.items c.args.at c.index.result.now c.requires.linked c.requires.there c.index.ensures in
    inside.0

pub index-requires-2 : goal.index-requires-2
index-requires-2 c =
    let inside = chain_within c.args.first (peer_of c.args.owner.now) c.args.entries.now.items c.args.self.now.links.items c.args.self.now.chains.items c.args.at c.index.result.now c.requires.linked c.requires.there c.index.ensures in
    omega (arith, inside.1, c.args.entries.now.ok.0)

pub returns : goal.returns
returns c = λ keys known.
    let inside = chain_within c.args.first (peer_of c.args.owner.now) c.args.entries.now.items c.args.self.now.links.items c.args.self.now.chains.items c.args.at c.index.result.now c.requires.linked c.requires.there c.index.ensures in
    rw c.peer.ensures (chain_peer keys c.args.first (peer_of c.args.owner.now) c.args.entries.now.items c.args.self.now.chains.items c.args.at c.index.result.now c.index-2.result.now known c.requires.there c.index.ensures inside.1 c.index-2.ensures)
