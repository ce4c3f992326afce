use Rattle.std.proofs.Common.{◌≡◌, length}
use Rattle.xml_tokens.specs.Declarations
use Rattle.xml_tokens.proofs.declarations.has_other.Given as goal

-- what is left decides
abbrev pub invariant-loop-item : goal.invariant-loop-item
invariant-loop-item l = Declarations.has_other l.rest ≡ Declarations.has_other l.bytes

abbrev pub decreases-loop-item : goal.decreases-loop-item
decreases-loop-item l = length l.rest
