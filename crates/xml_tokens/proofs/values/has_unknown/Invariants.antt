use Rattle.std.proofs.Common.{◌≡◌, drop}
use Rattle.xml_tokens.specs.Values
use Rattle.xml_tokens.proofs.values.has_unknown.Given as goal

-- what is left decides
abbrev pub invariant-loop-i : goal.invariant-loop-i
invariant-loop-i l = Values.has_unknown (drop l.i l.raw) ≡ Values.has_unknown l.raw
