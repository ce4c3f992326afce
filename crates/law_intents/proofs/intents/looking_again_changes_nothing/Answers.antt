use Rattle.law_intents.proofs.Again.{look_again}
use Rattle.law_intents.proofs.intents.looking_again_changes_nothing.Goals as goal

pub returns : goal.returns
returns c = λ e ts o. look_again e ts o
