use Rattle.sim_5_moves.proofs.ServerWordsStanzas.{handled_is}
use Rattle.sim_5_moves.proofs.server_words.stanzas_are_counted_and_handled.Goals as goal

pub returns : goal.returns
returns c = handled_is
