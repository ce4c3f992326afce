-- What the laws of `others` say.
use Rattle.std.specs.Prelude.{◌≡◌, ◌≢◌, ℕ, List, None}
use Rattle.srv_state.specs.Moments.{with_fresh}
use Rattle.srv_state.specs.State.{ServerState}
use Rattle.sim_3_items.specs.Identities.{Identity, Login}
use Rattle.sim_3_items.specs.Pipes.{PipesRepresent}
use Rattle.sim_3_items.specs.Servers.{ServerRepresents}
use Rattle.sim_3_items.specs.ItemPipes.{ItemWire}
use Rattle.sim_2_links.specs.Views.{Table, View, with_at}
use Rattle.sim_2_links.specs.Words.{UpWord}
use Rattle.sim_4_links_follow.specs.OtherDevices.{HasRoom, IsNoStanza, IsOtherDevice}
use Rattle.sim_4_links_follow.specs.Taking.{IsFirst, IsHeard, IsLeft, IsOver}
use Rattle.xml_writer.specs.Items.{ItemOut}

abbrev pub WordsLeaveOthers : Type 0
WordsLeaveOthers =
    (who whom : Identity) (logins others : ℕ → Login) (h : ServerState ItemOut) (wires : Table ItemWire) (v u : View ItemOut) (k : ℕ) (word : UpWord ItemOut) (p : IsFirst who logins h wires v k word)
    → IsNoStanza word → HasRoom word h → IsOtherDevice who whom others h wires u → IsLeft who whom logins others h wires u k p.wire word

abbrev pub EndsLeaveOthers : Type 0
EndsLeaveOthers =
    (who whom : Identity) (logins others : ℕ → Login) (h : ServerState ItemOut) (wires : Table ItemWire) (v u : View ItemOut) (k : ℕ) (p : IsOver who logins h wires v k) → IsOtherDevice who whom others h wires u
    → IsHeard whom others h wires u k p.wire

abbrev pub ConnectionsComeBesideServer : Type 0
ConnectionsComeBesideServer =
    (whom : Identity) (others : ℕ → Login) (h : ServerState ItemOut) (wires : Table ItemWire) (u : View ItemOut) (k : ℕ) (entropy : List ℕ) → PipesRepresent whom others wires u → ServerRepresents whom others h u → wires k ≡ None
    → ServerRepresents whom others (with_fresh k entropy h) u

abbrev pub ConnectionsComeBesidePipes : Type 0
ConnectionsComeBesidePipes =
    (whom : Identity) (others : ℕ → Login) (wires : Table ItemWire) (u : View ItemOut) (k : ℕ) (w : ItemWire) → PipesRepresent whom others wires u → wires k ≡ None → w.device ≢ whom.position
    → PipesRepresent whom others (with_at k w wires) u
