use Rattle.cl_intents.proofs.Again.{look_again}
use Rattle.cl_intents.proofs.laws.looking_again_notes_nothing.Goals as goal

pub returns : goal.returns
returns c = λ client v. look_again client v
