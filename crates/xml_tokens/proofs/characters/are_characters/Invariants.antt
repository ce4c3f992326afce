use Rattle.std.proofs.Common.{◌≡◌, drop}
use Rattle.xml_tokens.specs.Characters
use Rattle.xml_tokens.proofs.characters.are_characters.Given as goal

-- what is left decides
abbrev pub invariant-loop-b : goal.invariant-loop-b
invariant-loop-b l = Characters.are_characters_after l.before l.last (drop l.b-index l.bytes) ≡ Characters.are_characters l.bytes
