use Rattle.sim_7_schedules.proofs.TriesAgain.{tried_again_absent}
use Rattle.sim_7_schedules.proofs.intents.intents_are_tried_again_where_absent.Goals as goal

pub returns : goal.returns
returns c = λ f i k has before rest last further are. tried_again_absent f i k has before rest last further are
