use Rattle.std.proofs.Common.{◌≡◌, eqb, ◌&&◌, drop}
use Rattle.std.specs.List.{list_all}
use Rattle.xml_tokens.specs.Values
use Rattle.xml_tokens.proofs.values.all_plain_ascii.Given as goal

-- what was seen and what is left decide
abbrev pub invariant-loop-b : goal.invariant-loop-b
invariant-loop-b l = (eqb l.marks 0 && list_all Values.is_plain_ascii (drop l.b-index l.raw)) ≡ list_all Values.is_plain_ascii l.raw
