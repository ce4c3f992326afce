use Rattle.sim_5_moves.proofs.Stepped.{stanza_step}
use Rattle.sim_5_moves.proofs.words_run.stanzas_are_steps.Goals as goal

pub returns : goal.returns
returns c = λ who logins h wires v k z p x. stanza_step who logins h wires v k z p x
