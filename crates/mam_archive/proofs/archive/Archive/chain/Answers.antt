use Rattle.std.proofs.Common.{◌≡◌, ◌+◌, ◌-◌, length, arith, sym}
use Rattle.mam_archive.proofs.ChainPositions.{chain_ends_is}
use Rattle.mam_archive.proofs.NumberedEntries.{follow_numbered}
use Rattle.mam_archive.proofs.archive.Archive.chain.Goals as goal

pub returns : goal.returns
returns c =
    let entries = c.self.inside.entries.items in
    let kept = c.self.invariant.0 in
    let first = c.self.inside.last + 1 - length entries in
    let follow = follow_numbered c.self.inside.last entries kept.numbers kept.within in
    let start : c.first.result ≡ first = rw (← c.self.view_is) at c.first.ensures.first in
    rw (c.chain.ensures, c.as_str.ensures, start, ← c.self.view_is)
    (sym (chain_ends_is c.self.inside.owner c.args.peer.now first entries follow (omega (arith, kept.within))))
