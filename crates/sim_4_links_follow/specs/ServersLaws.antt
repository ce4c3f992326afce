-- What the laws of `servers` say.
use Rattle.std.specs.Prelude.{◌≡◌, ℕ, ◌+◌, List, [], Some, slice_get}
use Rattle.srv_state.specs.Moments.{at_moment}
use Rattle.srv_state.specs.State.{ServerState}
use Rattle.sim_3_items.specs.Labels.{Label}
use Rattle.sim_3_items.specs.Identities.{Identity, IsNormal, Login}
use Rattle.sim_3_items.specs.Pipes.{PipesRepresent, by_number}
use Rattle.sim_3_items.specs.Servers.{ServerFollows, ServerRepresents}
use Rattle.sim_3_items.specs.ItemMoves.{served_item}
use Rattle.sim_3_items.specs.ItemPipes.{ItemWire}
use Rattle.sim_3_items.specs.ItemWorlds.{ItemWorld}
use Rattle.sim_2_links.specs.Machine.{LinkReached}
use Rattle.sim_2_links.specs.Views.{Table, View}
use Rattle.sim_2_links.specs.Words.{Bind, Foot, ResumeAt, UpWord}
use Rattle.sim_4_links_follow.specs.Taking.{AreApart, AreCountable, HasFirst, HasNumber, IsFirst, IsHeard, IsLeft, IsNext, IsOfLogin, IsOfManagement, IsOver, IsOwnWord, IsTaken, StepFollows, on_item}
use Rattle.xml_writer.specs.Items.{ItemOut}

abbrev pub LoginsFollow : Type 0
LoginsFollow =
    (who : Identity) (logins : ℕ → Login) (h : ServerState ItemOut) (wires : Table ItemWire) (v : View ItemOut) (k : ℕ) (word : UpWord ItemOut) (p : IsFirst who logins h wires v k word)
    → IsOfLogin word → IsTaken who logins h wires v k p.wire word

abbrev pub AcknowledgementsFollow : Type 0
AcknowledgementsFollow =
    (who : Identity) (logins : ℕ → Login) (h : ServerState ItemOut) (wires : Table ItemWire) (v : View ItemOut) (k : ℕ) (word : UpWord ItemOut) (p : IsFirst who logins h wires v k word)
    → IsOfManagement word → IsTaken who logins h wires v k p.wire word

abbrev pub FootersFollow : Type 0
FootersFollow =
    (who : Identity) (logins : ℕ → Login) (h : ServerState ItemOut) (wires : Table ItemWire) (v : View ItemOut) (k : ℕ) (p : IsFirst who logins h wires v k Foot)
    → IsTaken who logins h wires v k p.wire Foot

abbrev pub EndsFollow : Type 0
EndsFollow =
    (who : Identity) (logins : ℕ → Login) (h : ServerState ItemOut) (wires : Table ItemWire) (v : View ItemOut) (k : ℕ) (p : IsOver who logins h wires v k)
    → IsHeard who logins h wires v k p.wire

abbrev pub BindingsFollow : Type 0
BindingsFollow =
    (who : Identity) (logins : ℕ → Login) (h : ServerState ItemOut) (wires : Table ItemWire) (v : View ItemOut) (k : ℕ) (p : IsFirst who logins h wires v k Bind) → HasNumber h
    → IsTaken who logins h wires v k p.wire Bind

abbrev pub ResumptionsFollow : Type 0
ResumptionsFollow =
    (who : Identity) (logins : ℕ → Login) (h : ServerState ItemOut) (wires : Table ItemWire) (v : View ItemOut) (k q n : ℕ) (p : IsFirst who logins h wires v k (ResumeAt q n)) → AreCountable v
    → IsTaken who logins h wires v k p.wire (ResumeAt q n)

abbrev pub MomentsFollow : Type 0
MomentsFollow =
    (who : Identity) (logins : ℕ → Login) (h : ServerState ItemOut) (wires : Table ItemWire) (v : View ItemOut) (now : ℕ) → ServerRepresents who logins h v → PipesRepresent who logins wires v
    → ServerFollows who logins (at_moment now h) wires v []

abbrev pub OtherDevicesStay : Type 0
OtherDevicesStay =
    (who whom : Identity) (logins others : ℕ → Login) (h : ServerState ItemOut) (wires : Table ItemWire) (v u : View ItemOut) (k : ℕ) (word : UpWord ItemOut) (p : IsFirst who logins h wires v k word)
    → IsOwnWord word → AreApart who whom → ServerRepresents whom others h u → PipesRepresent whom others wires u → IsLeft who whom logins others h wires u k p.wire word

abbrev pub ItemsAreWordsWords : Type 0
ItemsAreWordsWords =
    (who : Identity) (logins : ℕ → Login) (h : ServerState ItemOut) (wires : Table ItemWire) (v : View ItemOut) (k : ℕ) (w : ItemWire) (i : ItemOut) → IsNormal who → LinkReached v → ServerRepresents who logins h v
    → PipesRepresent who logins wires v → IsNext who wires k w i → HasFirst who logins h wires v k w i

abbrev pub ItemsAreWordsWorlds : Type 0
ItemsAreWordsWorlds =
    (who : Identity) (logins : ℕ → Login) (w : ItemWorld) (v : View ItemOut) (position : ℕ) (wire : ItemWire) (i : ItemOut) (done : List (Label ItemOut)) → slice_get w.wires position ≡ Some wire
    → StepFollows who logins (by_number w.wires) v (position + 1) wire (on_item (position + 1) i w.server) done → ServerFollows who logins (served_item position i w).server (by_number (served_item position i w).wires) v done
