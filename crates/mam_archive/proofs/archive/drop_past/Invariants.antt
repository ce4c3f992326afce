use Rattle.std.proofs.Common.{◌≡◌, length}
use Rattle.mam_archive.specs.Entries.{newest}
use Rattle.mam_archive.proofs.archive.drop_past.Given as goal

-- what went was not among the newest
abbrev pub invariant-loop-entries : goal.invariant-loop-entries
invariant-loop-entries l = newest l.keep l.entries.items ≡ newest l.keep l.initial.entries.items

abbrev pub decreases-loop-entries : goal.decreases-loop-entries
decreases-loop-entries l = length l.entries.items
