use Rattle.sim_4_links_follow.proofs.Spoken.{stanza_read}
use Rattle.sim_4_links_follow.proofs.clients_speak.stanzas_are_read.Goals as goal

pub returns : goal.returns
returns c = stanza_read
