use Rattle.std.proofs.Common.{◌≡◌, drop, None}
use Rattle.xml_tokens.specs.Tags
use Rattle.xml_tokens.proofs.tags.has_unknown_quoted.Given as goal

-- what is left decides
abbrev pub invariant-loop-i : goal.invariant-loop-i
invariant-loop-i l = Tags.has_unknown_quoted l.quote (drop l.i l.bytes) ≡ Tags.has_unknown_quoted None l.bytes
