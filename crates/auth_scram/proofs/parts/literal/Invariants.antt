use Rattle.std.proofs.Common.{◌≡◌, drop}
use Rattle.auth_scram.specs.Parts.{literal}
use Rattle.auth_scram.proofs.parts.literal.Given as goal

-- the rest begins with what is left of the word where all of the bytes begin with all of it
abbrev pub invariant-loop-wanted : goal.invariant-loop-wanted
invariant-loop-wanted l = literal (drop l.wanted-index l.word) l.rest ≡ literal l.word l.bytes
