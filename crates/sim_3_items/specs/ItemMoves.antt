-- The moves of a world of items: each is one item handed over, one end told, one call of a user, or one act of the network.
use Rattle.std.specs.Prelude.{ℕ, ◌+◌, ◌==◌, Bool, true, false, List, [], ◌∷◌, ◌++◌, Option, Some, None, Result, Ok, Err, length, slice_get, slice_set, if◌then◌else◌}
use Rattle.cl_core.specs.UserCalls.{catch_up_answer, catches_up, closes, dials, forgets, leaves, say_answer, says}
use Rattle.cl_core.specs.Feeds.{Fed}
use Rattle.cl_core.specs.Steps.{item_step}
use Rattle.cl_handlers.specs.Clients.{ClientStep, ClientView}
use Rattle.cl_handlers.specs.Speech.{in_items}
use Rattle.cl_handlers.specs.ClientSteps.{is_apart}
use Rattle.srv_state.specs.Moments.{at_moment, gone_at, with_fresh}
use Rattle.srv_state.specs.State.{Out, Put, ServerState, Shut, Step, Took}
use Rattle.sim_3_items.specs.ItemPipes.{ItemWire, cut_at, down_end_reported, fresh_wire, handed_down, handed_up, is_end_due, left, put_down, put_up, shut, up_end_reported}
use Rattle.sim_3_items.specs.ItemWorlds.{ItemDevice, ItemWorld, Take, itself, read_of, silent_client_step}
use Rattle.srv_core.specs.Table.{after_item}
use Rattle.cmd_network.specs.Positions.{changed_at, changed_under, changed_where}
use Rattle.xml_writer.specs.Items.{ItemOut}

-- Devices and connections are told by their places, from 0.
pub data ItemMove : Type 0 where
  -- a device dials, and these bytes are drawn for its end and for the server's
  Dial : ℕ → List ℕ → List ℕ → ItemMove
  Forget : ℕ → ItemMove
  Close : ℕ → ItemMove
  -- its user submits a message to an address, which may be for nobody's other devices to see live
  Say : ℕ → List ℕ → List ℕ → Bool → ItemMove
  -- its user asks for the archive, in pages of at most so many
  CatchUp : ℕ → ℕ → ItemMove
  -- the clock moves on, and the server looks at it
  Tick : ℕ → ItemMove
  -- the next item of a connection is handed to the server, or to the device
  Up : ℕ → ItemMove
  Down : ℕ → ItemMove
  -- its end is told to the server, or to the device
  UpEnd : ℕ → ItemMove
  DownEnd : ℕ → ItemMove
  -- the network cuts a connection: so many items of each pipe stay
  Cut : ℕ → ℕ → ℕ → ItemMove

-- ---- the user of a device

-- a turn of the client of a device, and what it puts enters the pipe up of the connection that the device has
abbrev pub spoke : ℕ → ItemDevice → ClientStep ItemOut ItemOut → ItemWorld → ItemWorld
spoke position d t w = record w {
  devices = slice_set w.devices position (record d { client = t.client });
  wires = changed_where d.here (put_up t.out.put) w.wires;
}

-- the framer of a connection is no part of this world
abbrev pub fed_of : ClientView ItemOut → Fed ItemOut ItemOut
fed_of c = record { framer = None; turn = silent_client_step c }

abbrev pub dialed_by : ℕ → List ℕ → List ℕ → Option ItemDevice → ItemWorld → ItemWorld
dialed_by position mine yours None w = w
dialed_by position mine yours (Some d) w =
    let t = (dials in_items mine (fed_of d.client)).turn in
    record w {
      server = with_fresh (length w.wires + 1) yours (at_moment w.moment w.server);
      devices = slice_set w.devices position (record { client = t.client; here = Some (length w.wires) });
      wires = changed_where d.here left w.wires ++ put_up t.out.put (fresh_wire position) ∷ [];
    }

abbrev pub forgot_by : ℕ → Option ItemDevice → ItemWorld → ItemWorld
forgot_by position None w = w
forgot_by position (Some d) w = record w {
  devices = slice_set w.devices position (record { client = (forgets in_items (fed_of d.client)).turn.client; here = None });
  wires = changed_where d.here left w.wires;
}

-- the footer goes out before the connection is left
abbrev pub closed_by : ℕ → Option ItemDevice → ItemWorld → ItemWorld
closed_by position None w = w
closed_by position (Some d) w =
    let t = (closes in_items (fed_of d.client)).turn in
    record w {
      devices = slice_set w.devices position (record { client = t.client; here = None });
      wires = changed_where d.here left (changed_where d.here (put_up t.out.put) w.wires);
    }

-- what the client refuses changes nothing
abbrev pub said_in : {T E : Type 0} → Result T E → ℕ → ItemDevice → ClientStep ItemOut ItemOut → ItemWorld → ItemWorld
said_in (Ok done) position d t w = spoke position d t w
said_in (Err fault) position d t w = w

abbrev pub said_by : ℕ → List ℕ → List ℕ → Bool → Option ItemDevice → ItemWorld → ItemWorld
said_by position to text private None w = w
said_by position to text private (Some d) w = said_in (say_answer d.client text) position d (says in_items (silent_client_step d.client) to text private) w

abbrev pub caught_up_by : ℕ → ℕ → Option ItemDevice → ItemWorld → ItemWorld
caught_up_by position most None w = w
caught_up_by position most (Some d) w = said_in (catch_up_answer d.client) position d (catches_up in_items (silent_client_step d.client) most) w

-- ---- to the server

-- what the server puts out goes into the pipes
abbrev pub emitted : Out ItemOut → List ItemWire → List ItemWire
emitted (Put k item) wires = changed_under k (put_down (item ∷ [])) wires
emitted (Shut k) wires = changed_under k shut wires
emitted (Took from to origin) wires = wires

abbrev pub all_emitted : List (Out ItemOut) → List ItemWire → List ItemWire
all_emitted [] wires = wires
all_emitted (out ∷ outs) wires = all_emitted outs (emitted out wires)

-- and what it took is noted down
abbrev pub takes_reported : ℕ → List (Out ItemOut) → List Take
takes_reported moment [] = []
takes_reported moment (Put k item ∷ outs) = takes_reported moment outs
takes_reported moment (Shut k ∷ outs) = takes_reported moment outs
takes_reported moment (Took from to origin ∷ outs) = record { moment = moment; from = from; to = to; origin = origin } ∷ takes_reported moment outs

abbrev pub step_of : ServerState ItemOut → Step ItemOut
step_of h = record { server_state = h; outs = [] }

-- one item of the connection at a place
abbrev pub served_item : ℕ → ItemOut → ItemWorld → ItemWorld
served_item position i w =
    let done = after_item itself (position + 1) (read_of i) (step_of w.server) in
    record w { server = done.server_state; wires = all_emitted done.outs (changed_at position handed_up w.wires); takes = w.takes ++ takes_reported w.moment done.outs }

abbrev pub served_first : ℕ → List ItemOut → ItemWorld → ItemWorld
served_first position [] w = w
served_first position (i ∷ items) w = served_item position i w

abbrev pub served_by : ℕ → Option ItemWire → ItemWorld → ItemWorld
served_by position None w = w
served_by position (Some wire) w = served_first position wire.up.items w

abbrev pub reported_up : ℕ → Option ItemWire → ItemWorld → ItemWorld
reported_up position None w = w
reported_up position (Some wire) w =
    if is_end_due wire.up
    then record w { server = gone_at (position + 1) (at_moment w.moment w.server); wires = changed_at position up_end_reported w.wires }
    else w

-- ---- to the device

abbrev pub has_wire : ℕ → Option ℕ → Bool
has_wire position None = false
has_wire position (Some here) = here == position

-- a device whose client left the connection, for a fault of the server, has none any more, and leaves its pipes
abbrev pub here_after : Bool → Option ℕ → Option ℕ
here_after is_left here = if is_left then None else here

abbrev pub left_where : Bool → ItemWire → ItemWire
left_where is_left wire = if is_left then left wire else wire

abbrev pub heard : ℕ → ℕ → ItemDevice → ClientStep ItemOut ItemOut → ItemWorld → ItemWorld
heard position device d t w = record w {
  devices = slice_set w.devices device (record { client = t.client; here = here_after (is_apart t.client.phase) d.here });
  wires = changed_at position (λ wire. left_where (is_apart t.client.phase) (put_up t.out.put (handed_down wire))) w.wires;
}

abbrev pub heard_first : ℕ → ℕ → List ItemOut → ItemDevice → ItemWorld → ItemWorld
heard_first position device [] d w = w
heard_first position device (i ∷ items) d w = heard position device d (item_step in_items (silent_client_step d.client) (read_of i)) w

-- the end of its connection comes; the device still has that connection
abbrev pub end_heard : ℕ → ℕ → Bool → ItemDevice → ItemWorld → ItemWorld
end_heard position device false d w = w
end_heard position device true d w = record w {
  devices = slice_set w.devices device (record d { client = (leaves (fed_of d.client)).turn.client });
  wires = changed_at position down_end_reported w.wires;
}

-- what is handed to a device, where this is its connection
abbrev pub at_device : ℕ → (ItemWire → ItemDevice → ItemWorld → ItemWorld) → ItemWire → Option ItemDevice → ItemWorld → ItemWorld
at_device position f wire None w = w
at_device position f wire (Some d) w = if has_wire position d.here then f wire d w else w

abbrev pub at_wire : ℕ → (ItemWire → ItemDevice → ItemWorld → ItemWorld) → Option ItemWire → ItemWorld → ItemWorld
at_wire position f None w = w
at_wire position f (Some wire) w = at_device position f wire (slice_get w.devices wire.device) w

-- ---- a move

abbrev pub moved : ItemMove → ItemWorld → ItemWorld
moved (Dial device mine yours) w = dialed_by device mine yours (slice_get w.devices device) w
moved (Forget device) w = forgot_by device (slice_get w.devices device) w
moved (Close device) w = closed_by device (slice_get w.devices device) w
moved (Say device to text private) w = said_by device to text private (slice_get w.devices device) w
moved (CatchUp device most) w = caught_up_by device most (slice_get w.devices device) w
moved (Tick milliseconds) w = record w { moment = w.moment + milliseconds; server = at_moment (w.moment + milliseconds) w.server }
moved (Up position) w = served_by position (slice_get w.wires position) w
moved (UpEnd position) w = reported_up position (slice_get w.wires position) w
moved (Down position) w = at_wire position (λ wire d. heard_first position wire.device wire.down.items d) (slice_get w.wires position) w
moved (DownEnd position) w = at_wire position (λ wire d. end_heard position wire.device (is_end_due wire.down) d) (slice_get w.wires position) w
moved (Cut position up down) w = record w { wires = changed_at position (cut_at up down) w.wires }

-- moves, one after another
abbrev pub all_moved : List ItemMove → ItemWorld → ItemWorld
all_moved [] w = w
all_moved (m ∷ moves) w = all_moved moves (moved m w)
