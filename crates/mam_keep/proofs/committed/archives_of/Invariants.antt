use Rattle.std.proofs.Common.{take}
use Rattle.std.specs.List.{AllByRecursion}
use Rattle.mam_keep.proofs.Gathering.{IsListed, IsSum}
use Rattle.mam_keep.specs.Kept.{Differ}
use Rattle.mam_keep.proofs.committed.archives_of.Given as goal

-- each is whole, none stands twice, and that of each change so far is there
abbrev pub invariant-loop-append : goal.invariant-loop-append
invariant-loop-append l =
    AllByRecursion (IsSum l.log) l.archives.items × Differ l.archives.items × AllByRecursion (IsListed l.archives.items) (take l.append-index l.log)
