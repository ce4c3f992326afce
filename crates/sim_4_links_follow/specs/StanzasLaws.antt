-- What the laws of `stanzas` say.
use Rattle.std.specs.Prelude.{◌≡◌, ℕ, [], ◌∷◌}
use Rattle.srv_state.specs.State.{ServerState}
use Rattle.sim_3_items.specs.Labels.{Takes}
use Rattle.sim_3_items.specs.Identities.{Identity, Login}
use Rattle.sim_3_items.specs.Pipes.{PipesRepresent}
use Rattle.sim_3_items.specs.Servers.{ServerRepresents}
use Rattle.sim_3_items.specs.ItemPipes.{ItemWire}
use Rattle.sim_2_links.specs.Machine.{LinkReached}
use Rattle.sim_2_links.specs.Views.{Table, View}
use Rattle.sim_2_links.specs.Words.{St, Up}
use Rattle.sim_4_links_follow.specs.Taking.{AreApart, IsFirst, on_item}
use Rattle.sim_4_links_follow.specs.Given.{IsOfSession, StepGives, acts_on}
use Rattle.xml_writer.specs.Items.{ItemOut}

abbrev pub StanzasFollowComes : Type 0
StanzasFollowComes =
    (who : Identity) (logins : ℕ → Login) (h : ServerState ItemOut) (wires : Table ItemWire) (v : View ItemOut) (k : ℕ) (z : ItemOut) → IsFirst who logins h wires v k (Up (St z)) → IsOfSession who h z

abbrev pub StanzasFollowFollows : Type 0
StanzasFollowFollows =
    (who : Identity) (logins : ℕ → Login) (h : ServerState ItemOut) (wires : Table ItemWire) (v : View ItemOut) (k : ℕ) (z : ItemOut) (p : IsFirst who logins h wires v k (Up (St z))) (x : IsOfSession who h z)
    → StepGives who logins wires v k p.wire (on_item k z h) (acts_on who h z x) (Takes z ∷ [])

abbrev pub StanzasReachOthers : Type 0
StanzasReachOthers =
    (who whom : Identity) (logins others : ℕ → Login) (h : ServerState ItemOut) (wires : Table ItemWire) (v u : View ItemOut) (k : ℕ) (z : ItemOut) (p : IsFirst who logins h wires v k (Up (St z))) (x : IsOfSession who h z)
    → AreApart who whom → LinkReached u → ServerRepresents whom others h u → PipesRepresent whom others wires u → StepGives whom others wires u k p.wire (on_item k z h) (acts_on who h z x) []
