use Rattle.sim_4_links_follow.proofs.StanzaRows.{stanza_comes, stanza_follows}
use Rattle.sim_4_links_follow.proofs.stanzas.stanzas_follow.Goals as goal

pub returns : goal.returns
returns c = record { comes = stanza_comes; follows = stanza_follows }
