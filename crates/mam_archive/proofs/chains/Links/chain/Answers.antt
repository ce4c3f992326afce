use Rattle.std.proofs.Common.{◌≡◌, ◌+◌, ◌-◌, map, false, sym, ◌∙◌, arith}
use Rattle.mam_archive.proofs.ChainReads.{chain_none, chain_some, ends_count, ends_read}
use Rattle.mam_archive.proofs.Keys.{gap_absent}
use Rattle.mam_archive.specs.Chained.{is_text_of}
use Rattle.mam_archive.specs.Peers.{peer_of}
use Rattle.mam_archive.proofs.chains.Links.chain.Goals as goal

pub overflow_sub-ends : goal.overflow_sub-ends
overflow_sub-ends c =
    let peers = map (peer_of c.args.owner.now) c.args.entries.now.items in
    let ends = ends_read c.args.first peers c.args.peer.now c.args.self.now.links.items c.args.self.now.chains.items c.in-Ok.at c.index-ends.result.now c.requires.linked c.in-Ok.ensures.found c.index-ends.ensures in
    ends.first_low

pub index-requires : goal.index-requires
index-requires c =
    let peers = map (peer_of c.args.owner.now) c.args.entries.now.items in
    let ends = ends_read c.args.first peers c.args.peer.now c.args.self.now.links.items c.args.self.now.chains.items c.in-Ok.at c.index-ends.result.now c.requires.linked c.in-Ok.ensures.found c.index-ends.ensures in
    omega (arith, ends.first_high, c.args.self.now.links.ok.0)

pub overflow_sub-ends-in-Ok : goal.overflow_sub-ends-in-Ok
overflow_sub-ends-in-Ok c =
    let peers = map (peer_of c.args.owner.now) c.args.entries.now.items in
    let ends = ends_read c.args.first peers c.args.peer.now c.args.self.now.links.items c.args.self.now.chains.items c.in-Ok.at c.index-ends.result.now c.requires.linked c.in-Ok.ensures.found c.index-ends.ensures in
    ends.last_low

pub index-requires-in-Ok : goal.index-requires-in-Ok
index-requires-in-Ok c =
    let peers = map (peer_of c.args.owner.now) c.args.entries.now.items in
    let ends = ends_read c.args.first peers c.args.peer.now c.args.self.now.links.items c.args.self.now.chains.items c.in-Ok.at c.index-ends.result.now c.requires.linked c.in-Ok.ensures.found c.index-ends.ensures in
    omega (arith, ends.last_high, c.args.self.now.links.ok.0)

pub overflow_sub-result : goal.overflow_sub-result
overflow_sub-result c =
    let peers = map (peer_of c.args.owner.now) c.args.entries.now.items in
    let ends = ends_read c.args.first peers c.args.peer.now c.args.self.now.links.items c.args.self.now.chains.items c.in-Ok.at c.index-ends.result.now c.requires.linked c.in-Ok.ensures.found c.index-ends.ensures in
    let count = ends_count c.args.first peers c.args.peer.now c.args.self.now.links.items c.args.self.now.chains.items c.index-ends.result.now c.index.result.now c.index-in-Ok.result.now c.requires.linked ends c.index.ensures c.index-in-Ok.ensures in
    count.0

pub overflow_add-result : goal.overflow_add-result
overflow_add-result c =
    let peers = map (peer_of c.args.owner.now) c.args.entries.now.items in
    let ends = ends_read c.args.first peers c.args.peer.now c.args.self.now.links.items c.args.self.now.chains.items c.in-Ok.at c.index-ends.result.now c.requires.linked c.in-Ok.ensures.found c.index-ends.ensures in
    let count = ends_count c.args.first peers c.args.peer.now c.args.self.now.links.items c.args.self.now.chains.items c.index-ends.result.now c.index.result.now c.index-in-Ok.result.now c.requires.linked ends c.index.ensures c.index-in-Ok.ensures in
    omega (arith, count.1, count.2, c.args.self.now.links.ok.0)

pub returns-in-Ok : goal.returns-in-Ok
returns-in-Ok c =
    let peers = map (peer_of c.args.owner.now) c.args.entries.now.items in
    let ends = ends_read c.args.first peers c.args.peer.now c.args.self.now.links.items c.args.self.now.chains.items c.in-Ok.at c.index-ends.result.now c.requires.linked c.in-Ok.ensures.found c.index-ends.ensures in
    let count = ends_count c.args.first peers c.args.peer.now c.args.self.now.links.items c.args.self.now.chains.items c.index-ends.result.now c.index.result.now c.index-in-Ok.result.now c.requires.linked ends c.index.ensures c.index-in-Ok.ensures in
    chain_some c.args.first peers c.args.peer.now c.args.self.now.links.items c.index-ends.result.now (c.index-in-Ok.result.now.ordinal - c.index.result.now.ordinal + 1) ends count.1

pub returns-in-Err : goal.returns-in-Err
returns-in-Err c =
    let peers = map (peer_of c.args.owner.now) c.args.entries.now.items in
    let known = c.requires.linked in
    let none : is_text_of c.args.peer.now peers ≡ false =
    sym (known.chained.every c.args.peer.now) ∙ gap_absent known.keys c.args.peer.now c.in-Err.field-0 (c.in-Err.ensures.absent known.keys known.chained) in
    chain_none c.args.first peers c.args.peer.now none
