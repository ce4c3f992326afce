use Rattle.std.proofs.Common.{◌≡◌, take}
use Rattle.mam_keep.specs.Changes.{after}
use Rattle.mam_keep.specs.Kept.{blank}
use Rattle.mam_keep.proofs.committed.archive_of.Given as goal

-- what the changes so far come to
abbrev pub invariant-loop-append : goal.invariant-loop-append
invariant-loop-append l = l.gathered ≡ after l.owner (take l.append-index l.log) blank
