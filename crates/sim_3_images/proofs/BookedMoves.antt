-- Each move keeps it, and so each world of a schedule's history does.
use Rattle.std.proofs.Common.{ℕ, ◌+◌, ◌==◌, Bool, true, false, cond, List, [], ◌∷◌, ◌++◌, length, Option, Some, None, sym, subst, arith}
use Rattle.std.specs.Prelude.{slice_get, slice_set, take}
use Rattle.std.specs.List.{AllByRecursion}
use Rattle.srv_state.specs.Moments.{at_moment}
use Rattle.srv_state.specs.State.{ServerState}
use Rattle.cmd_network.specs.Devices.{DeviceState}
use Rattle.net_pipes.specs.Pipes.{is_end_due}
use Rattle.cmd_schedule.specs.Schedules.{WireView}
use Rattle.cmd_schedule.specs.declared.schedule.Count.{Count}
use Rattle.cmd_schedule.specs.declared.schedule.Version.{Version}
use Rattle.cmd_schedule.specs.declared.schedule.WireLine.{WireLine}
use Rattle.srv_core.specs.Events.{after_gone}
use Rattle.law_server.proofs.PieceTakes.{bytes_take}
use Rattle.cmd_network.specs.Wires.{amount, handed_up, up_end_reported}
use Rattle.cmd_network.specs.declared.wire.Wire.{Wire}
use Rattle.cmd_world.specs.Effects.{effects_of}
use Rattle.cmd_world.specs.Histories.{history_of, world_at_start, world_of, worlds_along, worlds_by}
use Rattle.cmd_world.specs.Lines.{moves_of, stepped}
use Rattle.cmd_world.specs.Moves as moves
use Rattle.cmd_world.specs.Moves.{Move, caught_up_by, closed_by, dialed_by, down_by, down_to, forgot_by, moved, reported_up, said_by, served, served_by, step_of_piece}
use Rattle.cmd_world.specs.Worlds.{ByteWorld, number_at, server_entropy}
use Rattle.cmd_world.proofs.AllMoves.{kept_by_lines, kept_by_moves}
use Rattle.xml_writer.specs.Items.{written_item}
use Rattle.sim_3_images.proofs.Booked.{Booked, IsBooked, booked_fresh, booked_gone, booked_later, booked_more, emitted_lines}

-- the moment is the same, or the clock has moved on
now_or_later : (start : Version) (names : List (List ℕ)) (first : ServerState (List ℕ)) (w : ByteWorld) → IsBooked start names first w → Booked start names first w.version w.accounts w.moment (at_moment w.moment w.server.server_state) w.takes
now_or_later start names first w is = booked_later start names first w.version w.accounts w.moment w.moment w.server.server_state w.takes (omega arith) is

dialed : (start : Version) (names : List (List ℕ)) (first : ServerState (List ℕ)) (position : ℕ) (o : Option DeviceState) (w : ByteWorld) → IsBooked start names first w → IsBooked start names first (dialed_by position o w)
dialed start names first position None w is = is
dialed start names first position (Some d) w is =
    let k = number_at (length w.wires) in
    booked_fresh start names first w.version w.accounts w.moment k (server_entropy k) (at_moment w.moment w.server.server_state) w.takes (now_or_later start names first w is)

forgot : (start : Version) (names : List (List ℕ)) (first : ServerState (List ℕ)) (position : ℕ) (o : Option DeviceState) (w : ByteWorld) → IsBooked start names first w → IsBooked start names first (forgot_by position o w)
forgot start names first position None w is = is
forgot start names first position (Some d) w is = is

closed : (start : Version) (names : List (List ℕ)) (first : ServerState (List ℕ)) (position : ℕ) (o : Option DeviceState) (w : ByteWorld) → IsBooked start names first w → IsBooked start names first (closed_by position o w)
closed start names first position None w is = is
closed start names first position (Some d) w is = is

said : (start : Version) (names : List (List ℕ)) (first : ServerState (List ℕ)) (position line : ℕ) (to text : List ℕ) (private : Bool) (o : Option DeviceState) (w : ByteWorld) → IsBooked start names first w
    → IsBooked start names first (said_by position line to text private o w)
said start names first position line to text private None w is = is
said start names first position line to text private (Some d) w is = is

caught_up : (start : Version) (names : List (List ℕ)) (first : ServerState (List ℕ)) (position line most : ℕ) (o : Option DeviceState) (w : ByteWorld) → IsBooked start names first w → IsBooked start names first (caught_up_by position line most o w)
caught_up start names first position line most None w is = is
caught_up start names first position line most (Some d) w is = is

was_served : (start : Version) (names : List (List ℕ)) (first : ServerState (List ℕ)) (position n : ℕ) (wire : Wire) (w : ByteWorld) → IsBooked start names first w → IsBooked start names first (served position n wire w)
was_served start names first position n wire w is =
    let k = number_at position in
    let piece = take n wire.up.bytes in
    let done = step_of_piece k piece w.moment w.server in
    let took = bytes_take written_item k piece w.moment w.server [] in
    subst (λ lines. Booked start names first w.version w.accounts w.moment done.server_state lines)
    (sym (emitted_lines w.version w.moment done.outs (effects_of (slice_set w.wires position (handed_up n wire)) w.takes)))
    (booked_more start names first w.version w.accounts w.moment w.server.server_state w.takes done took.0 is took.1)

either : (start : Version) (names : List (List ℕ)) (first : ServerState (List ℕ)) (b : Bool) (v w : ByteWorld) → IsBooked start names first v → IsBooked start names first w → IsBooked start names first (cond b v w)
either start names first true v w p q = p
either start names first false v w p q = q

served_so : (start : Version) (names : List (List ℕ)) (first : ServerState (List ℕ)) (position : ℕ) (count : Count) (o : Option Wire) (w : ByteWorld) → IsBooked start names first w → IsBooked start names first (served_by position count o w)
served_so start names first position count None w is = is
served_so start names first position count (Some wire) w is =
    either start names first (amount count wire.up == 0) w (served position (amount count wire.up) wire w) is (was_served start names first position (amount count wire.up) wire w is)

end_told : (start : Version) (names : List (List ℕ)) (first : ServerState (List ℕ)) (position : ℕ) (o : Option Wire) (w : ByteWorld) → IsBooked start names first w → IsBooked start names first (reported_up position o w)
end_told start names first position None w is = is
end_told start names first position (Some wire) w is =
    either start names first (is_end_due wire.up) (record w { server = after_gone (number_at position) w.moment w.server; wires = slice_set w.wires position (up_end_reported wire) }) w
    (booked_gone start names first w.version w.accounts w.moment (number_at position) (at_moment w.moment w.server.server_state) w.takes (now_or_later start names first w is)) is

heard_to : (start : Version) (names : List (List ℕ)) (first : ServerState (List ℕ)) (position : ℕ) (count : Count) (wire : Wire) (o : Option DeviceState) (w : ByteWorld) → IsBooked start names first w
    → IsBooked start names first (down_to position count wire o w)
heard_to start names first position count wire None w is = is
heard_to start names first position count wire (Some d) w is = is

heard : (start : Version) (names : List (List ℕ)) (first : ServerState (List ℕ)) (position : ℕ) (count : Count) (o : Option Wire) (w : ByteWorld) → IsBooked start names first w → IsBooked start names first (down_by position count o w)
heard start names first position count None w is = is
heard start names first position count (Some wire) w is = heard_to start names first position count wire (slice_get w.devices wire.device) w is

pub by_move : (start : Version) (names : List (List ℕ)) (first : ServerState (List ℕ)) (m : Move) (w : ByteWorld) → IsBooked start names first w → IsBooked start names first (moved m w)
by_move start names first (moves.Dial position) w is = dialed start names first position (slice_get w.devices position) w is
by_move start names first (moves.Forget position) w is = forgot start names first position (slice_get w.devices position) w is
by_move start names first (moves.Close position) w is = closed start names first position (slice_get w.devices position) w is
by_move start names first (moves.Say position line to text private) w is = said start names first position line to text private (slice_get w.devices position) w is
by_move start names first (moves.CatchUp position line most) w is = caught_up start names first position line most (slice_get w.devices position) w is
by_move start names first (moves.Tick milliseconds) w is =
    booked_later start names first w.version w.accounts w.moment (w.moment + milliseconds) w.server.server_state w.takes (omega arith) is
by_move start names first (moves.Up position count) w is =
    let v = served_by position count (slice_get w.wires position) w in
    end_told start names first position (slice_get v.wires position) v (served_so start names first position count (slice_get w.wires position) w is)
by_move start names first (moves.Down position count) w is = heard start names first position count (slice_get w.wires position) w is
by_move start names first (moves.Cut position up down) w is = is

-- ---- histories

along_moves : (P : ByteWorld → Type 0) → ((m : Move) (w : ByteWorld) → P w → P (moved m w)) → (moves : List Move) (w : ByteWorld) → P w → AllByRecursion P (worlds_by moves w)
along_moves P each [] w is = tt
along_moves P each (m ∷ moves) w is = (each m w is, along_moves P each moves (moved m w) (each m w is))

both : (P : ByteWorld → Type 0) (vs ws : List ByteWorld) → AllByRecursion P vs → AllByRecursion P ws → AllByRecursion P (vs ++ ws)
both P [] ws a b = b
both P (v ∷ vs) ws a b = (a.0, both P vs ws a.1 b)

along_lines : (P : ByteWorld → Type 0) → ((m : Move) (w : ByteWorld) → P w → P (moved m w)) → (lines : List WireLine) (w : ByteWorld) → P w → AllByRecursion P (worlds_along lines w)
along_lines P each [] w is = tt
along_lines P each (line ∷ lines) w is =
    both P (worlds_by (moves_of line w) w) (worlds_along lines (stepped line w)) (along_moves P each (moves_of line w) w is)
    (along_lines P each lines (stepped line w) (kept_by_moves P each (moves_of line w) w is))

pub each_world : (P : ByteWorld → Type 0) → ((m : Move) (w : ByteWorld) → P w → P (moved m w)) → (schedule : WireView) → P (world_at_start schedule) → AllByRecursion P (history_of schedule)
each_world P each schedule is = (is, along_lines P each schedule.lines (world_at_start schedule) is)

pub last_world : (P : ByteWorld → Type 0) → ((m : Move) (w : ByteWorld) → P w → P (moved m w)) → (schedule : WireView) → P (world_at_start schedule) → P (world_of schedule)
unfolding world_of
last_world P each schedule is = kept_by_lines P each schedule.lines (world_at_start schedule) is
