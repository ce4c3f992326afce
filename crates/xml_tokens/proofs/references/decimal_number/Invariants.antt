use Rattle.std.proofs.Common.{◌≡◌, min, take}
use Rattle.xml_tokens.specs.References.{number_of}
use Rattle.xml_tokens.proofs.references.decimal_number.Given as goal

abbrev pub invariant-loop-d : goal.invariant-loop-d
invariant-loop-d l = l.n ≡ min (number_of 10 (take l.d-index l.digits)) 1114112
