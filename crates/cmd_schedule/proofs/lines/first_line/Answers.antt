use Rattle.cmd_schedule.proofs.Words.{piece_after, piece_all}
use Rattle.cmd_schedule.proofs.lines.first_line.Goals as goal

pub returns-in-Some-clause-pieces : goal.returns-in-Some-clause-pieces
returns-in-Some-clause-pieces c =
    let parts = c.in-Some.ensures in
    rw parts.0 (piece_after c.in-Some.line.now c.in-Some.rest.now (λ i lt. parts.1 i 0 lt))

pub returns-in-None-clause-pieces : goal.returns-in-None-clause-pieces
returns-in-None-clause-pieces c = piece_all c.args.text.now c.requires (λ i lt. c.in-None.ensures i 0 lt)
