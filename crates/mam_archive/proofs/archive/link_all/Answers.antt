use Rattle.mam_archive.proofs.ChainPositions.{chained_none}
use Rattle.mam_archive.proofs.archive.link_all.Goals as goal

pub loop-entry-init : goal.loop-entry-init
loop-entry-init c = rw (c.new-entries.ensures.items, c.new-links.ensures.links, c.new-links.ensures.chains) (c.into_iter-entry-iterator.ensures.into_iter_gives.0, chained_none c.args.first c.requires.positive)
