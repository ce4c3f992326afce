use Rattle.std.proofs.Common.{◌≡◌, take}
use Rattle.base_io.proofs.list.ListOf.copy.Given as goal

-- what was copied so far
abbrev pub invariant-loop-item : goal.invariant-loop-item
invariant-loop-item g l = l.copy.items ≡ take l.item-index l.item-items
