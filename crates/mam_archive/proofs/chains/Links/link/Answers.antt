use Rattle.std.proofs.Common.{◌≡◌, ◌+◌, length, map, sym, ap, ◌∙◌}
use Rattle.std.proofs.lemmas.List.{length-map}
use Rattle.mam_archive.proofs.ChainSteps.{chain_last, chained_more, chained_new, end_ordinal}
use Rattle.mam_archive.specs.Peers.{peer_of}
use Rattle.mam_archive.proofs.chains.Links.link.Goals as goal

pub extend-requires-clause-position : goal.extend-requires-clause-position
extend-requires-clause-position c =
    chain_last c.args.first (map (peer_of c.args.owner.now) c.args.entries.now.items) c.args.peer.now c.args.self.now.links.items c.args.self.now.chains.items c.in-Ok.at c.requires.linked c.in-Ok.ensures.found

pub extend-requires-clause-ordinal : goal.extend-requires-clause-ordinal
extend-requires-clause-ordinal c =
    let peers = map (peer_of c.args.owner.now) c.args.entries.now.items in
    let number : c.args.number ≡ c.args.first + length peers = c.requires.number ∙ ap (λ n. c.args.first + n) (sym (length-map c.args.entries.now.items (peer_of c.args.owner.now))) in
    end_ordinal c.args.first c.args.number peers c.args.peer.now c.args.self.now.links.items c.args.self.now.chains.items c.in-Ok.at c.requires.linked c.in-Ok.ensures.found number

pub returns-in-Ok-clause-linked : goal.returns-in-Ok-clause-linked
returns-in-Ok-clause-linked c =
    let peers = map (peer_of c.args.owner.now) c.args.entries.now.items in
    let number : c.args.number ≡ c.args.first + length peers = c.requires.number ∙ ap (λ n. c.args.first + n) (sym (length-map c.args.entries.now.items (peer_of c.args.owner.now))) in
    rw (c.extend.ensures.links, c.extend.ensures.chains)
    (chained_more c.args.first c.args.number peers c.args.peer.now c.args.self.now.links.items c.args.self.now.chains.items c.in-Ok.at c.requires.linked c.in-Ok.ensures.found number)

pub returns-in-Err-clause-linked : goal.returns-in-Err-clause-linked
returns-in-Err-clause-linked c =
    let peers = map (peer_of c.args.owner.now) c.args.entries.now.items in
    let number : c.args.number ≡ c.args.first + length peers = c.requires.number ∙ ap (λ n. c.args.first + n) (sym (length-map c.args.entries.now.items (peer_of c.args.owner.now))) in
    rw (c.begin.ensures.links, c.begin.ensures.chains)
    (chained_new c.args.first c.args.number peers c.args.peer.now c.args.self.now.links.items c.args.self.now.chains.items c.in-Err.at c.requires.linked c.in-Err.ensures.absent number)
