use Rattle.std.proofs.Common.{sym, subst, ◌++◌, ◌∷◌, [], map}
use Rattle.sim_3_items.specs.Downs.{down_stanza}
use Rattle.sim_1_applications.specs.Devices.{last_of}
use Rattle.sim_1_applications.specs.Events.{hears_of}
use Rattle.sim_5_moves.specs.Handled.{IsHeardOf}
use Rattle.sim_5_moves.proofs.MessagesGiven.{message_given}
use Rattle.sim_5_moves.proofs.stanzas.messages_are_given.Goals as goal

pub returns : goal.returns
returns c = λ keep owned names takes h i o s m e j p who logins v next d given last t x exists same at is device.
    subst (λ y. IsHeardOf (hears_of y j d) (last_of (takes ++ y ∷ []) p.account) (map down_stanza given) last) (sym same) (message_given x exists j p who logins v next d given last at is device)
