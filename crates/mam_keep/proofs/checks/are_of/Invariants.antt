use Rattle.std.proofs.Common.{◌+◌, ◌-◌, length}
use Rattle.mam_keep.proofs.Checked.{AreNumberedSoFar}
use Rattle.mam_keep.proofs.checks.are_of.Given as goal

-- the entries so far are numbered, and each is the owner's
abbrev pub invariant-loop-entry : goal.invariant-loop-entry
invariant-loop-entry l = AreNumberedSoFar l.owner (l.last + 1 - length l.entries) l.next l.entries l.entry-index
