-- Which events may happen to a server, and which bring bytes.
use Rattle.std.specs.Prelude.{◌≡◌, ℕ, Bool, false, List, [], ◌∷◌, None}
use Rattle.law_server.specs.Events as event
use Rattle.law_server.specs.Events.{Event, Run, after_event}
use Rattle.srv_state.specs.State.{conn_at, is_number}
use Rattle.xml_writer.specs.Items.{ItemOut}

-- a connection comes under a number that no open connection has, as `Server::connect` requires
abbrev pub MayHappen : {A : Type 0} → Event → Run A → Type 0
MayHappen (event.Connect k entropy now) r = conn_at k r.server.server_state ≡ None
MayHappen e r = Unit {0}

abbrev pub MayFollow : {A : Type 0} → (ItemOut → A) → List Event → Run A → Type 0
MayFollow say [] r = Unit {0}
MayFollow say (e ∷ events) r = MayHappen e r × MayFollow say events (after_event say e r)

-- the event brings these bytes on this connection, be it that memory ran out within them or not
pub data IsBringing (k : ℕ) (piece : List ℕ) (now : ℕ) (e : Event) : Type 0 where
  all_taken : e ≡ event.Bytes k piece now → IsBringing k piece now e
  some_taken : (done : ℕ) → e ≡ event.Stop k piece done now → IsBringing k piece now e

-- a connection comes under this number
abbrev pub comes : ℕ → Event → Bool
comes k (event.Connect j entropy now) = is_number k j
comes k (event.Bytes j piece now) = false
comes k (event.Stop j piece done now) = false
comes k (event.Gone j now) = false
comes k (event.Tick now) = false
