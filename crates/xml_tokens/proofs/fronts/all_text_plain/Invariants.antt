use Rattle.std.proofs.Common.{◌≡◌, eqb, ◌&&◌, drop}
use Rattle.std.specs.List.{list_all}
use Rattle.xml_tokens.specs.Spelling
use Rattle.xml_tokens.proofs.fronts.all_text_plain.Given as goal

-- what was seen and what is left decide
abbrev pub invariant-loop-b : goal.invariant-loop-b
invariant-loop-b l = (eqb l.marks 0 && list_all Spelling.is_text_plain (drop l.b-index l.bytes)) ≡ list_all Spelling.is_text_plain l.bytes
