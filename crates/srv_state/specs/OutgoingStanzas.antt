-- Stanzas that were made ahead, as steps.
use Rattle.std.specs.Prelude.{ℕ, List, map}
use Rattle.srv_state.specs.Steps.{Act, Send}
use Rattle.srv_state.specs.declared.outgoing_stanza.OutgoingStanza.{OutgoingStanza}

abbrev pub send_of : OutgoingStanza → Act (List ℕ)
send_of p = Send p.number p.shown.items

abbrev pub sends_of : List OutgoingStanza → List (Act (List ℕ))
sends_of outgoing_stanzas = map send_of outgoing_stanzas
