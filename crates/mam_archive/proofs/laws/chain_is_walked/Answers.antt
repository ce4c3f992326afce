use Rattle.mam_archive.proofs.ChainLaw.{walk_ends, walk_index, walk_none, walk_previous, walk_start}
use Rattle.mam_archive.proofs.Walks.{walk_first, walk_next}
use Rattle.mam_archive.proofs.laws.chain_is_walked.Goals as goal

pub returns-clause-first : goal.returns-clause-first
returns-clause-first c = walk_first

pub returns-clause-next : goal.returns-clause-next
returns-clause-next c = walk_next

pub returns-clause-previous : goal.returns-clause-previous
returns-clause-previous c = walk_previous

pub returns-clause-start : goal.returns-clause-start
returns-clause-start c = walk_start

pub returns-clause-index : goal.returns-clause-index
returns-clause-index c = walk_index

pub returns-clause-ends : goal.returns-clause-ends
returns-clause-ends c = walk_ends

pub returns-clause-none : goal.returns-clause-none
returns-clause-none c = walk_none
