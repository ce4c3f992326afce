use Rattle.std.proofs.Common.{◌≡◌, drop}
use Rattle.cl_intents.specs.States.{has_gap}
use Rattle.cl_intents.proofs.log_entries.has_gap.Given as goal

-- the entries so far have no gap, and what is left decides
abbrev pub invariant-loop-entry : goal.invariant-loop-entry
invariant-loop-entry l = has_gap l.last (drop l.entry-index l.entries) ≡ has_gap l.before l.entries
