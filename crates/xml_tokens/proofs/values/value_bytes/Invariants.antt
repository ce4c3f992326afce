use Rattle.std.proofs.Common.{◌≡◌, false, length}
use Rattle.xml_tokens.specs.Values.{in_front, text, value_from}
use Rattle.xml_tokens.proofs.values.value_bytes.Given as goal

-- what was said so far and what is left to say are the value
abbrev pub invariant-loop-rest : goal.invariant-loop-rest
invariant-loop-rest l = in_front l.value.items (value_from (text false) l.rest) ≡ value_from (text false) l.raw

abbrev pub decreases-loop-rest : goal.decreases-loop-rest
decreases-loop-rest l = length l.rest
