use Rattle.sim_5_moves.proofs.ServersStanzas.{stanza_goes_up}
use Rattle.sim_5_moves.proofs.servers.stanzas_go_up.Goals as goal

pub returns : goal.returns
returns c = λ schedule right b small says w x runs ground position wire i items there pipe o owned g z word. stanza_goes_up schedule right b small says w x runs ground position wire i items there pipe o owned g z word
