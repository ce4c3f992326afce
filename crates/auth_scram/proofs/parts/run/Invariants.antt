use Rattle.std.proofs.Common.{◌≡◌, take, drop}
use Rattle.auth_scram.specs.Parts.{run, with_front}
use Rattle.auth_scram.proofs.parts.run.Given as goal

-- what was read so far, and what the rest reads as, are what all of the bytes read as
abbrev pub invariant-loop-at : goal.invariant-loop-at
invariant-loop-at g l =
    let part = g.S.Part in
    with_front (take l.at l.bytes) (run part.goes_on part.may_end l.state (drop l.at l.bytes)) ≡ run part.goes_on part.may_end l.fn.start l.bytes
