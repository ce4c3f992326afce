use Rattle.std.proofs.Common.{Some, map, sym, ap, ◌∙◌, arith}
use Rattle.mam_archive.proofs.ChainReads.{ends_read, index_count}
use Rattle.mam_archive.proofs.ChainSteps.{links_of_entries, peer_chained, peer_position}
use Rattle.mam_archive.specs.Peers.{peer_of}
use Rattle.std.proofs.lemmas.Option.{same_Some}
use Rattle.mam_archive.proofs.chains.Links.index_at.Goals as goal

pub unreachable-requires : goal.unreachable-requires
unreachable-requires c =
    let peers = map (peer_of c.args.owner.now) c.args.entries.now.items in
    let here = peer_position (peer_of c.args.owner.now) c.args.entries.now.items c.args.at c.index.result.now c.requires.there c.index.ensures ∙ ap Some (sym c.peer.ensures) in
    peer_chained c.args.first peers c.peer.result.now c.args.self.now.links.items c.args.self.now.chains.items c.args.at c.in_default.field-0 c.requires.linked here c.in_default.ensures.absent

pub overflow_sub-start : goal.overflow_sub-start
overflow_sub-start c =
    let peers = map (peer_of c.args.owner.now) c.args.entries.now.items in
    let ends = ends_read c.args.first peers c.peer.result.now c.args.self.now.links.items c.args.self.now.chains.items c.in-Ok.chain c.index-2.result.now c.requires.linked c.in-Ok.ensures.found c.index-2.ensures in
    ends.first_low

pub index-requires-3 : goal.index-requires-3
index-requires-3 c =
    let size = links_of_entries c.args.first (peer_of c.args.owner.now) c.args.entries.now.items c.args.self.now.links.items c.args.self.now.chains.items c.requires.linked in
    omega (arith, c.requires.there, c.args.self.now.links.ok.0)

pub index-requires-4 : goal.index-requires-4
index-requires-4 c =
    let peers = map (peer_of c.args.owner.now) c.args.entries.now.items in
    let ends = ends_read c.args.first peers c.peer.result.now c.args.self.now.links.items c.args.self.now.chains.items c.in-Ok.chain c.index-2.result.now c.requires.linked c.in-Ok.ensures.found c.index-2.ensures in
    omega (arith, ends.first_high, c.args.self.now.links.ok.0)

pub overflow_sub-result : goal.overflow_sub-result
overflow_sub-result c =
    let peers = map (peer_of c.args.owner.now) c.args.entries.now.items in
    let here = peer_position (peer_of c.args.owner.now) c.args.entries.now.items c.args.at c.index.result.now c.requires.there c.index.ensures ∙ ap Some (sym c.peer.ensures) in
    let ends = ends_read c.args.first peers c.peer.result.now c.args.self.now.links.items c.args.self.now.chains.items c.in-Ok.chain c.index-2.result.now c.requires.linked c.in-Ok.ensures.found c.index-2.ensures in
    let count = index_count c.args.first peers c.peer.result.now c.args.self.now.links.items c.args.self.now.chains.items c.index-2.result.now c.args.at c.index-3.result.now c.index-4.result.now c.requires.linked ends here c.index-3.ensures c.index-4.ensures in
    count.0

pub returns : goal.returns
returns c = λ peer is.
    let peers = map (peer_of c.args.owner.now) c.args.entries.now.items in
    let here = peer_position (peer_of c.args.owner.now) c.args.entries.now.items c.args.at c.index.result.now c.requires.there c.index.ensures ∙ ap Some (sym c.peer.ensures) in
    let ends = ends_read c.args.first peers c.peer.result.now c.args.self.now.links.items c.args.self.now.chains.items c.in-Ok.chain c.index-2.result.now c.requires.linked c.in-Ok.ensures.found c.index-2.ensures in
    let count = index_count c.args.first peers c.peer.result.now c.args.self.now.links.items c.args.self.now.chains.items c.index-2.result.now c.args.at c.index-3.result.now c.index-4.result.now c.requires.linked ends here c.index-3.ensures c.index-4.ensures in
    rw (← same_Some c.peer.result.now peer (sym here ∙ is)) count.1
