-- What the server does on an element of a session, and how the clients of sessions read what that sends.
use Rattle.std.specs.Prelude.{ℕ, nat_eq, if◌then◌else◌, List, [], ◌∷◌, ◌++◌, map}
use Rattle.srv_state.specs.State.{ServerState}
use Rattle.srv_state.specs.Steps.{Act, Send}
use Rattle.sim_3_items.specs.Items.{stanzas_read}
use Rattle.sm_live.specs.declared.told.SessionInfo.{SessionInfo}
use Rattle.sim_1_applications.specs.Stanzas.{Down}
use Rattle.im_stanza.specs.Readings.{stanza_of}
use Rattle.srv_core.specs.Stanzas.{handling}
use Rattle.xml_trees.specs.Trees.{Elem}
use Rattle.xml_writer.specs.Items.{ItemOut}

-- an item is put as it is
abbrev pub as_it_is : ItemOut → ItemOut
as_it_is z = z

-- what is done behind counting the stanza
abbrev pub does_on : Elem → SessionInfo → ServerState ItemOut → List (Act ItemOut)
does_on e t h = handling as_it_is (stanza_of e) t h

-- what goes to the session with a number
abbrev pub sent_to : ℕ → Act ItemOut → List ItemOut
sent_to n (Send m z) = if nat_eq m n then z ∷ [] else []
sent_to n _ = []

abbrev pub sends_to : ℕ → List (Act ItemOut) → List ItemOut
sends_to n [] = []
sends_to n (act ∷ acts) = sent_to n act ++ sends_to n acts

-- as that one's client reads it
abbrev pub read_at : ℕ → List (Act ItemOut) → List Down
read_at n acts = map stanzas_read.down (sends_to n acts)
