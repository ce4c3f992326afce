use Rattle.std.proofs.Common.{◌≡◌, Some, map, false, refl, sym, ap, ◌∙◌, arith}
use Rattle.mam_archive.proofs.ChainSteps.{chain_read, key_has}
use Rattle.mam_archive.proofs.Keys.{gap_absent}
use Rattle.mam_archive.proofs.Linked.{first_beside, first_none}
use Rattle.mam_archive.proofs.Walks.{some_number-positive}
use Rattle.mam_archive.specs.Chained.{least_with_peer, is_text_of}
use Rattle.mam_archive.specs.Peers.{peer_of}
use Rattle.mam_archive.specs.declared.chains.Ends.{Ends}
use Rattle.mam_archive.proofs.chains.Links.first_of.Goals as goal

pub returns-in-Ok : goal.returns-in-Ok
returns-in-Ok c =
    let peers = map (peer_of c.args.owner.now) c.args.entries.now.items in
    let chains = c.args.self.now.chains.items in
    let known = c.requires.linked in
    let key = c.in-Ok.ensures.found known.keys known.chained in
    let chain = c.index.ensures ∙ chain_read known.keys c.args.first peers chains c.in-Ok.at c.args.peer.now c.index.result.now known.chained key in
    let first : c.index.result.now.first ≡ least_with_peer c.args.peer.now c.args.first peers = ap (λ (x : Ends). x.first) chain in
    let beside = first_beside c.args.peer.now c.args.first peers (key_has known.keys c.args.first peers chains c.in-Ok.at c.args.peer.now known.chained key) in
    ap Some first ∙ sym (some_number-positive (least_with_peer c.args.peer.now c.args.first peers) (omega (arith, beside.low, c.requires.positive)))

pub returns-in-Err : goal.returns-in-Err
returns-in-Err c =
    let peers = map (peer_of c.args.owner.now) c.args.entries.now.items in
    let known = c.requires.linked in
    let none : is_text_of c.args.peer.now peers ≡ false =
    sym (known.chained.every c.args.peer.now) ∙ gap_absent known.keys c.args.peer.now c.in-Err.field-0 (c.in-Err.ensures.absent known.keys known.chained) in
    rw (first_none c.args.peer.now c.args.first peers none) refl
