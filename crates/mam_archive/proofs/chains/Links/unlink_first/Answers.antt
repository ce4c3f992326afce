use Rattle.std.proofs.Common.{◌≡◌, Some, map, slice_get, sym, ap, ◌∙◌}
use Rattle.mam_archive.proofs.ChainSteps.{chained_less, peer_position, peer_chained}
use Rattle.mam_archive.specs.Peers.{peer_of}
use Rattle.mam_archive.proofs.chains.Links.unlink_first.Goals as goal

pub unreachable-requires : goal.unreachable-requires
unreachable-requires c =
    let peers = map (peer_of c.args.owner.now) c.args.entries.now.items in
    let first : slice_get peers 0 ≡ Some c.peer.result.now =
    peer_position (peer_of c.args.owner.now) c.args.entries.now.items 0 c.index.result.now c.requires.some c.index.ensures ∙ ap Some (sym c.peer.ensures) in
    peer_chained c.args.first peers c.peer.result.now c.args.self.now.links.items c.args.self.now.chains.items 0 c.in_default.field-0 c.requires.linked first c.in_default.ensures.absent

pub returns-clause-linked : goal.returns-clause-linked
returns-clause-linked c =
    let peers = map (peer_of c.args.owner.now) c.args.entries.now.items in
    let first : slice_get peers 0 ≡ Some c.peer.result.now =
    peer_position (peer_of c.args.owner.now) c.args.entries.now.items 0 c.index.result.now c.requires.some c.index.ensures ∙ ap Some (sym c.peer.ensures) in
    rw (c.move_on.ensures.links, c.move_on.ensures.chains)
    (chained_less c.args.first c.peer.result.now peers c.args.self.now.links.items c.args.self.now.chains.items c.in-Ok.at c.requires.linked first c.in-Ok.ensures.found)
