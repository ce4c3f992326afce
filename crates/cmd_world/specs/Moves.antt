-- The moves of a world. One move is a step of the server or of a client, or one of the network.
use Rattle.std.specs.Prelude.{ℕ, ◌+◌, ◌==◌, Bool, ◌&&◌, List, [], ◌∷◌, ◌++◌, Option, Some, None, length, slice_get, slice_set, take, if◌then◌else◌}
use Rattle.srv_state.specs.Moments.{at_moment}
use Rattle.srv_state.specs.State.{Step}
use Rattle.cmd_network.specs.Devices.{DeviceState, Spoken, catches_up_on, closes_here, dials_at, forgets_all, has_wire, hears, is_left, loses, says_to}
use Rattle.net_pipes.specs.Pipes.{is_end_due}
use Rattle.cmd_report.specs.Addresses.{bare_address}
use Rattle.cmd_schedule.specs.declared.schedule.Count.{Count}
use Rattle.srv_core.specs.Events.{Whole, after_bytes, after_connect, after_gone, dropped, fed, framer_at, news, whole}
use Rattle.cmd_network.specs.Positions.{changed_at, changed_where}
use Rattle.cmd_network.specs.Wires as wires
use Rattle.cmd_network.specs.Wires.{amount, cut_at, down_end_reported, fresh_wire, handed_down, handed_up, put_down, put_up, up_end_reported}
use Rattle.cmd_network.specs.declared.wire.Wire.{Wire}
use Rattle.cmd_world.specs.Effects.{Effects, all_emitted, effects_of}
use Rattle.cmd_world.specs.Worlds.{ByteWorld, client_entropy, number_at, server_entropy}
use Rattle.xml_writer.specs.Items.{written_item}

-- Devices and connections are told by their places, from 0. What a user asks for has the number of its line.
pub data Move : Type 0 where
  -- a device dials
  Dial : ℕ → Move
  -- it leaves its connection, and its session ends
  Forget : ℕ → Move
  -- it closes its stream, leaves its connection, and its session ends
  Close : ℕ → Move
  -- its user submits a message to an account, which may be for nobody's other devices to see live
  Say : ℕ → ℕ → List ℕ → List ℕ → Bool → Move
  -- its user asks for the archive, in pages of at most so many
  CatchUp : ℕ → ℕ → ℕ → Move
  -- the clock moves on
  Tick : ℕ → Move
  -- bytes of a connection are handed to the server
  Up : ℕ → Count → Move
  -- and to the device
  Down : ℕ → Count → Move
  -- the network cuts a connection: so many bytes of each pipe stay
  Cut : ℕ → ℕ → ℕ → Move

-- ---- the user of a device

-- a device did something, and its client's bytes enter the pipe to the server of the connection that it has
abbrev pub spoke : ℕ → Option ℕ → Spoken → ByteWorld → ByteWorld
spoke position here s w = record w { devices = slice_set w.devices position s.device; wires = changed_where here (put_up s.put) w.wires }

-- it dials: it leaves the connection that it has, and a new one is made
abbrev pub dialed_by : ℕ → Option DeviceState → ByteWorld → ByteWorld
dialed_by position None w = w
dialed_by position (Some d) w =
    let k = number_at (length w.wires) in
    let s = dials_at (client_entropy k) (length w.wires) d in
    record w {
      server = after_connect k (server_entropy k) w.moment w.server;
      devices = slice_set w.devices position s.device;
      wires = changed_where d.here wires.left w.wires ++ put_up s.put (fresh_wire position) ∷ [];
    }

abbrev pub forgot_by : ℕ → Option DeviceState → ByteWorld → ByteWorld
forgot_by position None w = w
forgot_by position (Some d) w = record w { devices = slice_set w.devices position (forgets_all d); wires = changed_where d.here wires.left w.wires }

-- the footer goes out before the connection is left
abbrev pub closed_by : ℕ → Option DeviceState → ByteWorld → ByteWorld
closed_by position None w = w
closed_by position (Some d) w =
    record w {
      devices = slice_set w.devices position (closes_here d).device;
      wires = changed_where d.here wires.left (changed_where d.here (put_up (closes_here d).put) w.wires);
    }

abbrev pub said_by : ℕ → ℕ → List ℕ → List ℕ → Bool → Option DeviceState → ByteWorld → ByteWorld
said_by position line to text private None w = w
said_by position line to text private (Some d) w = spoke position d.here (says_to line (bare_address to) text private d) w

abbrev pub caught_up_by : ℕ → ℕ → ℕ → Option DeviceState → ByteWorld → ByteWorld
caught_up_by position line most None w = w
caught_up_by position line most (Some d) w = spoke position d.here (catches_up_on line most d) w

-- ---- to the server

-- the server behind a piece of a connection (the framer is the one that took the piece; connections that were shut have none)
abbrev pub server_after : ℕ → List ℕ → Whole (List ℕ) → Step (List ℕ) → Whole (List ℕ)
server_after k piece server done = whole done.server_state (dropped (news [] done.outs) (fed k piece (framer_at k server.framers) server.framers))

abbrev pub with_effects : Whole (List ℕ) → Effects → ByteWorld → ByteWorld
with_effects server e w = record w { server = server; wires = e.wires; takes = e.takes }

-- what a piece of the connection under a number does at a moment
abbrev pub step_of_piece : ℕ → List ℕ → ℕ → Whole (List ℕ) → Step (List ℕ)
step_of_piece k piece moment server = after_bytes written_item k piece moment server []

-- The first n bytes of the connection at a place go to the server, and what that puts out goes into the pipes down.
abbrev pub served : ℕ → ℕ → Wire → ByteWorld → ByteWorld
served position n wire w =
    let piece = take n wire.up.bytes in
    let done = step_of_piece (number_at position) piece w.moment w.server in
    with_effects (server_after (number_at position) piece w.server done)
    (all_emitted w.version w.moment done.outs (effects_of (slice_set w.wires position (handed_up n wire)) w.takes)) w

-- where these are none the server isn't called
abbrev pub served_first : ℕ → ℕ → Wire → ByteWorld → ByteWorld
served_first position n wire w = if n == 0 then w else served position n wire w

abbrev pub served_by : ℕ → Count → Option Wire → ByteWorld → ByteWorld
served_by position count None w = w
served_by position count (Some wire) w = served_first position (amount count wire.up) wire w

-- Where nothing is under way any more and nothing comes, the server is told once that the connection is gone.
abbrev pub reported_up : ℕ → Option Wire → ByteWorld → ByteWorld
reported_up position None w = w
reported_up position (Some wire) w =
    if is_end_due wire.up
    then record w { server = after_gone (number_at position) w.moment w.server; wires = slice_set w.wires position (up_end_reported wire) }
    else w

abbrev pub end_reported_up : ℕ → ByteWorld → ByteWorld
end_reported_up position w = reported_up position (slice_get w.wires position) w

-- ---- to the device

-- a connection and its device
pub record Link : Type 0 where
  pub wire : Wire
  pub device : DeviceState

abbrev pub link_of : Wire → DeviceState → Link
link_of wire device = record { wire = wire; device = device }

-- a device whose client left the connection, for a fault of the server, leaves its pipes too
abbrev pub left_where : Bool → Wire → Wire
left_where is_left wire = if is_left then wires.left wire else wire

-- what the client puts enters the pipe up before the end mark
abbrev pub heard : ℕ → Spoken → Link → Link
heard n s l = link_of (left_where (is_left s.device.client) (put_up s.put (handed_down n l.wire))) s.device

abbrev pub heard_first : ℕ → Link → Link
heard_first n l = if n == 0 then l else heard n (hears (take n l.wire.down.bytes) l.device) l

-- Where nothing is under way any more and nothing comes, the client is told once, if this is still its connection.
abbrev pub end_heard : ℕ → Link → Link
end_heard position l = if has_wire position l.device.here && is_end_due l.wire.down then link_of (down_end_reported l.wire) (loses l.device) else l

-- so many bytes go to the device, if this is its connection
abbrev pub heard_by : ℕ → Count → Link → Link
heard_by position count l = if has_wire position l.device.here then end_heard position (heard_first (amount count l.wire.down) l) else l

abbrev pub with_link : ℕ → ℕ → Link → ByteWorld → ByteWorld
with_link position device l w = record w { wires = slice_set w.wires position l.wire; devices = slice_set w.devices device l.device }

abbrev pub down_to : ℕ → Count → Wire → Option DeviceState → ByteWorld → ByteWorld
down_to position count wire None w = w
down_to position count wire (Some d) w = with_link position wire.device (heard_by position count (link_of wire d)) w

abbrev pub down_by : ℕ → Count → Option Wire → ByteWorld → ByteWorld
down_by position count None w = w
down_by position count (Some wire) w = down_to position count wire (slice_get w.devices wire.device) w

-- ---- a move

abbrev pub moved : Move → ByteWorld → ByteWorld
moved (Dial device) w = dialed_by device (slice_get w.devices device) w
moved (Forget device) w = forgot_by device (slice_get w.devices device) w
moved (Close device) w = closed_by device (slice_get w.devices device) w
moved (Say device line to text private) w = said_by device line to text private (slice_get w.devices device) w
moved (CatchUp device line most) w = caught_up_by device line most (slice_get w.devices device) w
moved (Tick milliseconds) w =
    record w { moment = w.moment + milliseconds; server = record w.server { server_state = at_moment (w.moment + milliseconds) w.server.server_state } }
moved (Up position count) w = end_reported_up position (served_by position count (slice_get w.wires position) w)
moved (Down position count) w = down_by position count (slice_get w.wires position) w
moved (Cut position up down) w = record w { wires = changed_at position (cut_at up down) w.wires }

-- moves, one after another
abbrev pub all_moved : List Move → ByteWorld → ByteWorld
all_moved [] w = w
all_moved (m ∷ moves) w = all_moved moves (moved m w)
