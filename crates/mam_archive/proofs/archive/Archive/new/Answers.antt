use Rattle.mam_archive.proofs.ChainPositions.{chained_none, kept_none}
use Rattle.std.proofs.Common.{arith}
use Rattle.mam_archive.proofs.archive.Archive.new.Goals as goal

pub invariant_of-result : goal.invariant_of-result
invariant_of-result c =
    rw (c.new.ensures.items, c.new-2.ensures.links, c.new-2.ensures.chains) (kept_none c.args.keep c.requires.keep, chained_none 1 (omega arith))
