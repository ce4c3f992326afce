use Rattle.std.proofs.Common.{◌≡◌, ◌&&◌, ◌==◌, not, drop}
use Rattle.std.specs.List.{list_all}
use Rattle.xml_tokens.specs.Values.{is_plain_ascii}
use Rattle.xml_framer.proofs.many_bytes.are_usual.Given as goal

-- what was seen and what is left decide
abbrev pub invariant-loop-b : goal.invariant-loop-b
invariant-loop-b l =
    (l.usual && list_all (λ b. is_plain_ascii b && (not (b == 62) && not (b == 93))) (drop l.b-index l.bytes))
    ≡ list_all (λ b. is_plain_ascii b && (not (b == 62) && not (b == 93))) l.bytes
