-- The events of a server, one after another, over any type of what is put: what the calls on `Server` of `srv_core` make
-- of it, and of what it has put out.
use Rattle.std.specs.Prelude.{ℕ, List, [], ◌∷◌, Option, Some, None, take}
use Rattle.std.specs.Map.{remove_entry}
use Rattle.xml_framer.specs.States.{State}
use Rattle.srv_state.specs.Moments.{at_moment, gone_at}
use Rattle.srv_state.specs.State.{Out, Step, is_number}
use Rattle.srv_core.specs.Events.{Whole, after_bytes, after_connect, after_gone, begun, dropped, fed, framer_at, news, turn_of, whole}
use Rattle.srv_core.specs.Table.{after_items}
use Rattle.xml_writer.specs.Items.{ItemOut}

-- A connection comes, with the bytes that were drawn for it; bytes come on one; memory runs out within them, behind so many
-- of their items; a connection is gone; or time passes. Each has its moment, which stands last.
pub data Event : Type 0 where
  Connect : ℕ → List ℕ → ℕ → Event
  Bytes : ℕ → List ℕ → ℕ → Event
  Stop : ℕ → List ℕ → ℕ → ℕ → Event
  Gone : ℕ → ℕ → Event
  Tick : ℕ → Event

-- a server, and what it has put out
pub record Run (A : Type 0) : Type 0 where
  pub server : Whole A
  pub outs : List (Out A)

abbrev pub run : {A : Type 0} → Whole A → List (Out A) → Run A
run w outs = record { server = w; outs = outs }

-- the server alone, with what it has put out
abbrev pub stand_of : {A : Type 0} → Run A → Step A
stand_of r = record { server_state = r.server.server_state; outs = r.outs }

-- The bytes did this. The framer of the connection has taken them, and connections that were shut have none.
abbrev pub brought : {A : Type 0} → ℕ → List ℕ → Run A → Step A → Run A
brought k piece r done =
    run (whole done.server_state (dropped (news r.outs done.outs) (fed k piece (framer_at k r.server.framers) r.server.framers))) done.outs

-- Some first items did this, and the connection is gone.
abbrev pub left_at : {A : Type 0} → ℕ → Run A → Step A → Run A
left_at k r done =
    run (whole (gone_at k done.server_state) (dropped (news r.outs done.outs) (remove_entry (is_number k) r.server.framers))) done.outs

abbrev pub stopped_in : {A : Type 0} → (ItemOut → A) → ℕ → List ℕ → ℕ → ℕ → Option State → Run A → Run A
stopped_in say k piece done now None r = r
stopped_in say k piece done now (Some f) r = left_at k r (after_items say k (take done (turn_of piece f).items) (begun now r.server.server_state r.outs))

abbrev pub after_event : {A : Type 0} → (ItemOut → A) → Event → Run A → Run A
after_event say (Connect k entropy now) r = run (after_connect k entropy now r.server) r.outs
after_event say (Bytes k piece now) r = brought k piece r (after_bytes say k piece now r.server r.outs)
after_event say (Stop k piece done now) r = stopped_in say k piece done now (framer_at k r.server.framers) r
after_event say (Gone k now) r = run (after_gone k now r.server) r.outs
after_event say (Tick now) r = run (whole (at_moment now r.server.server_state) r.server.framers) r.outs

-- all of them, in order
abbrev pub after_events : {A : Type 0} → (ItemOut → A) → List Event → Run A → Run A
after_events say [] r = r
after_events say (event ∷ events) r = after_events say events (after_event say event r)
