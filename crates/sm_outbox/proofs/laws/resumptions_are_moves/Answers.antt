use Rattle.sm_outbox.proofs.Directions.{acknowledges, resumption}
use Rattle.sm_outbox.proofs.laws.resumptions_are_moves.Goals as goal

pub returns-clause-resumes : goal.returns-clause-resumes
returns-clause-resumes g c h w d next few reached sends move is = resumption h w d next few reached sends move is

pub returns-clause-late : goal.returns-clause-late
returns-clause-late g c h n w d next few reached sends move is =
    let taken = acknowledges h n w d next few reached sends move is in
    (taken.0, taken.2)
