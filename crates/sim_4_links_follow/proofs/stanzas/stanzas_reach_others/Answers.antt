use Rattle.sim_4_links_follow.proofs.StanzaRows.{reaches_other}
use Rattle.sim_4_links_follow.proofs.stanzas.stanzas_reach_others.Goals as goal

pub returns : goal.returns
returns c = λ who whom logins others h wires v u k z p x apart reached represents pipes. reaches_other who logins h wires v k z p x whom others u apart reached represents pipes
