use Rattle.std.proofs.Common.{take}
use Rattle.std.specs.List.{AllByRecursion}
use Rattle.mam_keep.specs.Changes.{MayAppend}
use Rattle.mam_keep.proofs.checks.may_all_be_added.Given as goal

abbrev pub invariant-loop-append : goal.invariant-loop-append
invariant-loop-append l = AllByRecursion MayAppend (take l.append-index l.appends)
