use Rattle.sm_live.proofs.Directions.{late_resumption, old_counts, resumption}
use Rattle.sm_live.proofs.laws.resumptions_are_moves.Goals as goal

pub returns-clause-resumes : goal.returns-clause-resumes
returns-clause-resumes c h conn s d next few reached sends move is = resumption h conn s d next few reached sends move is

pub returns-clause-late : goal.returns-clause-late
returns-clause-late c h n conn s d next few reached sends move is = late_resumption h n conn s d next few reached sends move is

pub returns-clause-exact : goal.returns-clause-exact
returns-clause-exact c h s d sends few low = old_counts h s d sends few low
