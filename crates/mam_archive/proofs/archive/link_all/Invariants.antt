use Rattle.std.proofs.Common.{◌≡◌, ◌++◌, map}
use Rattle.std.specs.Vec.Iter.{into_iter_items}
use Rattle.mam_archive.specs.Chained.{IsChained}
use Rattle.mam_archive.specs.Peers.{peer_of}
use Rattle.mam_archive.proofs.archive.link_all.Given as goal

-- those so far are linked, and the others are left
abbrev pub invariant-loop-entry : goal.invariant-loop-entry
invariant-loop-entry l =
    (l.entries.items ++ into_iter_items l.entry-iterator ≡ l.fn.items.items)
    × IsChained l.first (map (peer_of l.owner) l.entries.items) l.links.links.items l.links.chains.items
