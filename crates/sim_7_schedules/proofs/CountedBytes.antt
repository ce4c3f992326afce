-- However far a schedule goes, the counts of the bytes that were put and handed over have 64 bits.
use Rattle.std.proofs.Common.{◌≡◌, ℕ, zero, suc, ◌+◌, ◌-◌, ◌<◌, ◌^◌, ◌==◌, ◌&&◌, Bool, true, false, cond, List, [], ◌∷◌, ◌++◌, Option, Some, None, length, refl, subst, arith}
use Rattle.std.proofs.Math.Nat.{min-le_right}
use Rattle.std.proofs.lemmas.Option.{none-some, same_Some}
use Rattle.std.specs.List.{AllByRecursion, slice_get, slice_set}
use Rattle.std.specs.Prelude.{take}
use Rattle.srv_state.specs.State.{Out, Put, Shut, Took}
use Rattle.cmd_network.specs.Devices.{DeviceState, catches_up_on, closes_here, dials_at, has_wire, hears, is_left, loses, says_to}
use Rattle.net_pipes.specs.Pipes.{Pipe, entered, handed, is_end_due, risen}
use Rattle.cmd_report.specs.Addresses.{bare_address}
use Rattle.cmd_schedule.specs.declared.schedule.Count.{Count}
use Rattle.cmd_schedule.specs.declared.schedule.Version.{Version}
use Rattle.srv_core.specs.Events.{after_gone}
use Rattle.cmd_network.specs.Positions.{changed_at, changed_where, position_under}
use Rattle.cmd_network.specs.Wires as wires
use Rattle.cmd_network.specs.Wires.{amount, cut_at, down_end_reported, fresh_wire, handed_down, handed_up, put_down, put_up, shut, up_end_reported}
use Rattle.cmd_network.specs.declared.wire.Wire.{Wire}
use Rattle.cmd_world.specs.Effects.{Effects, all_emitted, effects_of, emitted}
use Rattle.cmd_world.specs.Moves as moves
use Rattle.cmd_world.specs.Moves.{Link, Move, caught_up_by, closed_by, dialed_by, down_by, down_to, end_heard, forgot_by, heard, heard_by, heard_first, left_where, link_of, moved, reported_up, said_by, served, served_by, step_of_piece}
use Rattle.cmd_world.specs.Worlds.{ByteWorld, client_entropy, number_at}

-- ---- one connection

pub record HasCounts (p : Pipe) : Type 0 where
  pub put : p.put < 2 ^ 64
  pub taken : p.taken < 2 ^ 64

pub record IsCounted (b : Wire) : Type 0 where
  pub up : HasCounts b.up
  pub down : HasCounts b.down

abbrev Stays : (Wire → Wire) → Type 0
Stays f = (b : Wire) → IsCounted b → IsCounted (f b)

risen_low : (count more : ℕ) → risen count more < 2 ^ 64
risen_low count more = let low = min-le_right (count + more) (2 ^ 64 - 1) in omega (arith, low)

entered_counts : (more : List ℕ) (p : Pipe) → HasCounts p → HasCounts (entered more p)
entered_counts more p is = by p.ended
  where
    by : (b : Bool) → HasCounts (cond b p (record p { bytes = p.bytes ++ more; put = risen p.put (length more) }))
    by true = is
    by false = record { put = risen_low p.put (length more); taken = is.taken }

handed_counts : (n : ℕ) (p : Pipe) → HasCounts p → HasCounts (handed n p)
handed_counts n p is = record { put = is.put; taken = risen_low p.taken (length (take n p.bytes)) }

left_counts : Stays wires.left
left_counts b is = record { up = record { put = is.up.put; taken = is.up.taken }; down = record { put = is.down.put; taken = is.down.taken } }

shut_counts : Stays shut
shut_counts b is = record { up = record { put = is.up.put; taken = is.up.taken }; down = record { put = is.down.put; taken = is.down.taken } }

cut_counts : (up down : ℕ) → Stays (cut_at up down)
cut_counts up down b is = record { up = record { put = is.up.put; taken = is.up.taken }; down = record { put = is.down.put; taken = is.down.taken } }

put_up_counts : (bytes : List ℕ) → Stays (put_up bytes)
put_up_counts bytes b is = record { up = entered_counts bytes b.up is.up; down = is.down }

put_down_counts : (bytes : List ℕ) → Stays (put_down bytes)
put_down_counts bytes b is = record { up = is.up; down = entered_counts bytes b.down is.down }

handed_up_counts : (n : ℕ) → Stays (handed_up n)
handed_up_counts n b is = record { up = handed_counts n b.up is.up; down = is.down }

handed_down_counts : (n : ℕ) → Stays (handed_down n)
handed_down_counts n b is = record { up = is.up; down = handed_counts n b.down is.down }

up_told_counts : Stays up_end_reported
up_told_counts b is = record { up = record { put = is.up.put; taken = is.up.taken }; down = is.down }

down_told_counts : Stays down_end_reported
down_told_counts b is = record { up = is.up; down = record { put = is.down.put; taken = is.down.taken } }

fresh_counts : (position : ℕ) → IsCounted (fresh_wire position)
fresh_counts position = record { up = record { put = omega arith; taken = omega arith }; down = record { put = omega arith; taken = omega arith } }

-- ---- all of them

abbrev pub AreCounted : List Wire → Type 0
AreCounted ws = AllByRecursion IsCounted ws

at_counts : (f : Wire → Wire) → Stays f → (ws : List Wire) (position : ℕ) → AreCounted ws → AreCounted (changed_at position f ws)
at_counts f stays [] position all = tt
at_counts f stays (b ∷ ws) zero all = (stays b all.0, all.1)
at_counts f stays (b ∷ ws) (suc position) all = (all.0, at_counts f stays ws position all.1)

where_counts : (f : Wire → Wire) → Stays f → (ws : List Wire) (o : Option ℕ) → AreCounted ws → AreCounted (changed_where o f ws)
where_counts f stays ws None all = all
where_counts f stays ws (Some position) all = at_counts f stays ws position all

set_counts : (ws : List Wire) (position : ℕ) (new : Wire) → IsCounted new → AreCounted ws → AreCounted (slice_set ws position new)
set_counts [] position new is all = tt
set_counts (b ∷ ws) zero new is all = (is, all.1)
set_counts (b ∷ ws) (suc position) new is all = (all.0, set_counts ws position new is all.1)

more_counts : (ws : List Wire) (new : Wire) → IsCounted new → AreCounted ws → AreCounted (ws ++ new ∷ [])
more_counts [] new is all = (is, tt)
more_counts (b ∷ ws) new is all = (all.0, more_counts ws new is all.1)

-- one that is there
there_counts : (ws : List Wire) (position : ℕ) (b : Wire) → slice_get ws position ≡ Some b → AreCounted ws → IsCounted b
there_counts [] position b found all = absurd (none-some b found)
there_counts (x ∷ ws) zero b found all = subst IsCounted (same_Some x b found) all.0
there_counts (x ∷ ws) (suc position) b found all = there_counts ws position b found all.1

-- ---- moves

out_counts : (version : Version) (moment : ℕ) (out : Out (List ℕ)) (e : Effects) → AreCounted e.wires → AreCounted (emitted version moment out e).wires
out_counts version moment (Put k bytes) e all = where_counts (put_down bytes) (put_down_counts bytes) e.wires (position_under k) all
out_counts version moment (Shut k) e all = where_counts shut shut_counts e.wires (position_under k) all
out_counts version moment (Took from to origin) e all = all

outs_count : (version : Version) (moment : ℕ) (outs : List (Out (List ℕ))) (e : Effects) → AreCounted e.wires → AreCounted (all_emitted version moment outs e).wires
outs_count version moment [] e all = all
outs_count version moment (out ∷ outs) e all = outs_count version moment outs (emitted version moment out e) (out_counts version moment out e all)

world_if : (b : Bool) (w v : ByteWorld) → AreCounted w.wires → AreCounted v.wires → AreCounted (cond b w v).wires
world_if true w v here there = here
world_if false w v here there = there

dialed : (position : ℕ) (o : Option DeviceState) (w : ByteWorld) → AreCounted w.wires → AreCounted (dialed_by position o w).wires
dialed position None w all = all
dialed position (Some d) w all =
    let s = dials_at (client_entropy (number_at (length w.wires))) (length w.wires) d in
    more_counts (changed_where d.here wires.left w.wires) (put_up s.put (fresh_wire position)) (put_up_counts s.put (fresh_wire position) (fresh_counts position)) (where_counts wires.left left_counts w.wires d.here all)

forgot : (position : ℕ) (o : Option DeviceState) (w : ByteWorld) → AreCounted w.wires → AreCounted (forgot_by position o w).wires
forgot position None w all = all
forgot position (Some d) w all = where_counts wires.left left_counts w.wires d.here all

closed : (position : ℕ) (o : Option DeviceState) (w : ByteWorld) → AreCounted w.wires → AreCounted (closed_by position o w).wires
closed position None w all = all
closed position (Some d) w all =
    where_counts wires.left left_counts (changed_where d.here (put_up (closes_here d).put) w.wires) d.here
    (where_counts (put_up (closes_here d).put) (put_up_counts (closes_here d).put) w.wires d.here all)

said : (position line : ℕ) (to text : List ℕ) (private : Bool) (o : Option DeviceState) (w : ByteWorld) → AreCounted w.wires → AreCounted (said_by position line to text private o w).wires
said position line to text private None w all = all
said position line to text private (Some d) w all = let s = says_to line (bare_address to) text private d in where_counts (put_up s.put) (put_up_counts s.put) w.wires d.here all

asked : (position line most : ℕ) (o : Option DeviceState) (w : ByteWorld) → AreCounted w.wires → AreCounted (caught_up_by position line most o w).wires
asked position line most None w all = all
asked position line most (Some d) w all = let s = catches_up_on line most d in where_counts (put_up s.put) (put_up_counts s.put) w.wires d.here all

was_served : (position : ℕ) (count : Count) (o : Option Wire) (w : ByteWorld) → slice_get w.wires position ≡ o → AreCounted w.wires → AreCounted (served_by position count o w).wires
was_served position count None w found all = all
was_served position count (Some wire) w found all =
    let n = amount count wire.up in
    let outs = (step_of_piece (number_at position) (take n wire.up.bytes) w.moment w.server).outs in
    world_if (n == 0) w (served position n wire w) all
    (outs_count w.version w.moment outs (effects_of (slice_set w.wires position (handed_up n wire)) w.takes)
    (set_counts w.wires position (handed_up n wire) (handed_up_counts n wire (there_counts w.wires position wire found all)) all))

end_told : (position : ℕ) (o : Option Wire) (w : ByteWorld) → slice_get w.wires position ≡ o → AreCounted w.wires → AreCounted (reported_up position o w).wires
end_told position None w found all = all
end_told position (Some wire) w found all =
    world_if (is_end_due wire.up) (record w { server = after_gone (number_at position) w.moment w.server; wires = slice_set w.wires position (up_end_reported wire) }) w
    (set_counts w.wires position (up_end_reported wire) (up_told_counts wire (there_counts w.wires position wire found all)) all) all

link_if : (b : Bool) (l m : Link) → IsCounted l.wire → IsCounted m.wire → IsCounted (cond b l m).wire
link_if true l m here there = here
link_if false l m here there = there

left_if : (b : Bool) (wire : Wire) → IsCounted wire → IsCounted (left_where b wire)
left_if true wire is = left_counts wire is
left_if false wire is = is

heard_counts : (position : ℕ) (count : Count) (l : Link) → IsCounted l.wire → IsCounted (heard_by position count l).wire
heard_counts position count l is =
    let n = amount count l.wire.down in
    let s = hears (take n l.wire.down.bytes) l.device in
    let m = heard_first n l in
    let first : IsCounted m.wire = link_if (n == 0) l (heard n s l) is (left_if (is_left s.device.client) (put_up s.put (handed_down n l.wire)) (put_up_counts s.put (handed_down n l.wire) (handed_down_counts n l.wire is))) in
    link_if (has_wire position l.device.here) (end_heard position m) l
    (link_if (has_wire position m.device.here && is_end_due m.wire.down) (link_of (down_end_reported m.wire) (loses m.device)) m (down_told_counts m.wire first) first) is

heard_to : (position : ℕ) (count : Count) (wire : Wire) (o : Option DeviceState) (w : ByteWorld) → IsCounted wire → AreCounted w.wires → AreCounted (down_to position count wire o w).wires
heard_to position count wire None w is all = all
heard_to position count wire (Some d) w is all = set_counts w.wires position (heard_by position count (link_of wire d)).wire (heard_counts position count (link_of wire d) is) all

heard_on : (position : ℕ) (count : Count) (o : Option Wire) (w : ByteWorld) → slice_get w.wires position ≡ o → AreCounted w.wires → AreCounted (down_by position count o w).wires
heard_on position count None w found all = all
heard_on position count (Some wire) w found all = heard_to position count wire (slice_get w.devices wire.device) w (there_counts w.wires position wire found all) all

pub counted_behind : (m : Move) (w : ByteWorld) → AreCounted w.wires → AreCounted (moved m w).wires
counted_behind (moves.Dial position) w all = dialed position (slice_get w.devices position) w all
counted_behind (moves.Forget position) w all = forgot position (slice_get w.devices position) w all
counted_behind (moves.Close position) w all = closed position (slice_get w.devices position) w all
counted_behind (moves.Say position line to text private) w all = said position line to text private (slice_get w.devices position) w all
counted_behind (moves.CatchUp position line most) w all = asked position line most (slice_get w.devices position) w all
counted_behind (moves.Tick milliseconds) w all = all
counted_behind (moves.Up position count) w all =
    let v = served_by position count (slice_get w.wires position) w in
    end_told position (slice_get v.wires position) v refl (was_served position count (slice_get w.wires position) w refl all)
counted_behind (moves.Down position count) w all = heard_on position count (slice_get w.wires position) w refl all
counted_behind (moves.Cut position up down) w all = at_counts (cut_at up down) (cut_counts up down) w.wires position all
