-- What each move changes of what the server was told of the ends of connections, and of how many there are.
use Rattle.std.proofs.Common.{◌≡◌, ℕ, zero, suc, ◌+◌, ◌≤◌, ◌==◌, Bool, true, false, true≢false, cond, List, [], ◌∷◌, ◌++◌, Option, Some, None, length, map, refl, sym, ap, ◌∙◌, length-append, arith}
use Rattle.std.proofs.lemmas.List.{length-map, map-append}
use Rattle.std.specs.Prelude.{◌&&◌, slice_get, slice_set, take}
use Rattle.base_io.specs.Names.{position_of}
use Rattle.cmd_network.specs.Devices.{DeviceState, catches_up_on, closes_here, dials_at, has_wire, hears, is_left, loses, says_to}
use Rattle.cmd_network.specs.Positions.{changed_at, changed_where, position_under}
use Rattle.cmd_network.specs.Wires as wires
use Rattle.cmd_network.specs.Wires.{amount, cut_at, down_end_reported, fresh_wire, handed_down, handed_up, put_down, put_up, shut, up_end_reported}
use Rattle.cmd_network.specs.declared.wire.Wire.{Wire}
use Rattle.cmd_report.specs.Addresses.{bare_address}
use Rattle.cmd_schedule.specs.declared.schedule.Count.{Count}
use Rattle.cmd_schedule.specs.declared.schedule.Step.{Step}
use Rattle.cmd_schedule.specs.declared.schedule.Step.TheVariants as step
use Rattle.cmd_schedule.specs.declared.schedule.Version.{Version}
use Rattle.cmd_schedule.specs.declared.schedule.WireLine.{WireLine}
use Rattle.cmd_schedule.specs.declared.schedule.WireStep.{WireStep}
use Rattle.cmd_schedule.specs.declared.schedule.WireStep.TheVariants as wire
use Rattle.cmd_world.specs.Effects.{Effects, all_emitted, effects_of, emitted}
use Rattle.cmd_world.specs.Lines.{common_moves, move_of, pass_of, passes_of, passes_where, round_from, rounds_of, step_moves, stepped}
use Rattle.cmd_world.specs.Moves as moves
use Rattle.cmd_world.specs.Moves.{Link, Move, all_moved, caught_up_by, closed_by, dialed_by, down_by, down_to, end_heard, forgot_by, heard, heard_by, heard_first, left_where, link_of, moved, reported_up, said_by, served, served_by, step_of_piece}
use Rattle.cmd_world.specs.Worlds.{ByteWorld, client_entropy, number_at}
use Rattle.net_pipes.specs.Pipes.{Pipe, entered, is_end_due}
use Rattle.srv_core.specs.Events.{after_gone}
use Rattle.srv_state.specs.State.{Out, Put, Shut, Took}
use Rattle.cmd_restart_lines.specs.RestartLines.{with_dial}

-- whether the server was told of the end of each connection
abbrev pub told : Wire → Bool
told b = b.up.told

abbrev pub told_in : List Wire → List Bool
told_in ws = map told ws

-- ---- lists

told_changed : (position : ℕ) (f : Wire → Wire) (ws : List Wire) → ((b : Wire) → told (f b) ≡ told b) → told_in (changed_at position f ws) ≡ told_in ws
told_changed position f [] same = refl
told_changed zero f (b ∷ ws) same = ap (λ (t : Bool). t ∷ told_in ws) (same b)
told_changed (suc position) f (b ∷ ws) same = ap (λ (ts : List Bool). told b ∷ ts) (told_changed position f ws same)

told_where : (o : Option ℕ) (f : Wire → Wire) (ws : List Wire) → ((b : Wire) → told (f b) ≡ told b) → told_in (changed_where o f ws) ≡ told_in ws
told_where None f ws same = refl
told_where (Some position) f ws same = told_changed position f ws same

told_set : (ws : List Wire) (position : ℕ) (b : Wire) → told_in (slice_set ws position b) ≡ slice_set (told_in ws) position (told b)
told_set [] position b = refl
told_set (w ∷ ws) zero b = refl
told_set (w ∷ ws) (suc position) b = ap (λ (ts : List Bool). told w ∷ ts) (told_set ws position b)

told_put : (ws : List Wire) (position : ℕ) (a b : Wire) → slice_get ws position ≡ Some a → told b ≡ told a → told_in (slice_set ws position b) ≡ told_in ws
told_put [] position a b is same = refl
told_put (w ∷ ws) zero a b is same = ap (λ (t : Bool). t ∷ told_in ws) (same ∙ sym (ap (told_or w) is))
  where
    told_or : Wire → Option Wire → Bool
    told_or w None = told w
    told_or w (Some x) = told x
told_put (w ∷ ws) (suc position) a b is same = ap (λ (ts : List Bool). told w ∷ ts) (told_put ws position a b is same)

-- ---- what is done to one connection

either_pipe : (b : Bool) (p q : Pipe) (t : Bool) → p.told ≡ t → q.told ≡ t → (cond b p q).told ≡ t
either_pipe true p q t here there = here
either_pipe false p q t here there = there

told_entered : (bytes : List ℕ) (p : Pipe) → (entered bytes p).told ≡ p.told
told_entered bytes p = either_pipe p.ended p _ p.told refl refl

told_put_up : (bytes : List ℕ) (b : Wire) → told (put_up bytes b) ≡ told b
told_put_up bytes b = told_entered bytes b.up

-- ---- what the server puts out

told_emitted : (version : Version) (moment : ℕ) (o : Out (List ℕ)) (e : Effects) → told_in (emitted version moment o e).wires ≡ told_in e.wires
told_emitted version moment (Put k bytes) e = told_where (position_under k) (put_down bytes) e.wires (λ b. refl)
told_emitted version moment (Shut k) e = told_where (position_under k) shut e.wires (λ b. refl)
told_emitted version moment (Took from to origin) e = refl

pub told_all_emitted : (version : Version) (moment : ℕ) (outs : List (Out (List ℕ))) (e : Effects) → told_in (all_emitted version moment outs e).wires ≡ told_in e.wires
told_all_emitted version moment [] e = refl
told_all_emitted version moment (o ∷ outs) e = told_all_emitted version moment outs (emitted version moment o e) ∙ told_emitted version moment o e

-- ---- moves

pub told_dialed : (position : ℕ) (d : DeviceState) (w : ByteWorld) → told_in (dialed_by position (Some d) w).wires ≡ told_in w.wires ++ false ∷ []
told_dialed position d w =
    let k = number_at (length w.wires) in
    let new = put_up (dials_at (client_entropy k) (length w.wires) d).put (fresh_wire position) in
    map-append told (changed_where d.here wires.left w.wires) (new ∷ [])
    ∙ ap (λ (ts : List Bool). ts ++ told new ∷ []) (told_where d.here wires.left w.wires (λ b. refl))
    ∙ ap (λ (t : Bool). told_in w.wires ++ t ∷ []) (told_put_up (dials_at (client_entropy k) (length w.wires) d).put (fresh_wire position))

pub told_forgot : (position : ℕ) (o : Option DeviceState) (w : ByteWorld) → told_in (forgot_by position o w).wires ≡ told_in w.wires
told_forgot position None w = refl
told_forgot position (Some d) w = told_where d.here wires.left w.wires (λ b. refl)

pub told_closed : (position : ℕ) (o : Option DeviceState) (w : ByteWorld) → told_in (closed_by position o w).wires ≡ told_in w.wires
told_closed position None w = refl
told_closed position (Some d) w =
    told_where d.here wires.left (changed_where d.here (put_up (closes_here d).put) w.wires) (λ b. refl) ∙ told_where d.here (put_up (closes_here d).put) w.wires (λ b. told_put_up (closes_here d).put b)

pub told_said : (position line : ℕ) (to text : List ℕ) (private : Bool) (o : Option DeviceState) (w : ByteWorld) → told_in (said_by position line to text private o w).wires ≡ told_in w.wires
told_said position line to text private None w = refl
told_said position line to text private (Some d) w =
    let put = (says_to line (bare_address to) text private d).put in
    told_where d.here (put_up put) w.wires (λ b. told_put_up put b)

pub told_caught_up : (position line most : ℕ) (o : Option DeviceState) (w : ByteWorld) → told_in (caught_up_by position line most o w).wires ≡ told_in w.wires
told_caught_up position line most None w = refl
told_caught_up position line most (Some d) w = (let put = (catches_up_on line most d).put in told_where d.here (put_up put) w.wires (λ b. told_put_up put b))

pub told_served : (position n : ℕ) (b : Wire) (w : ByteWorld) → slice_get w.wires position ≡ Some b → told_in (served position n b w).wires ≡ told_in w.wires
told_served position n b w there =
    let outs = (step_of_piece (number_at position) (take n b.up.bytes) w.moment w.server).outs in
    told_all_emitted w.version w.moment outs (effects_of (slice_set w.wires position (handed_up n b)) w.takes) ∙ told_put w.wires position b (handed_up n b) there refl

either_world : (b : Bool) (v u : ByteWorld) (ts : List Bool) → told_in v.wires ≡ ts → told_in u.wires ≡ ts → told_in (cond b v u).wires ≡ ts
either_world true v u ts here there = here
either_world false v u ts here there = there

pub told_served_by : (position : ℕ) (count : Count) (o : Option Wire) (w : ByteWorld) → slice_get w.wires position ≡ o → told_in (served_by position count o w).wires ≡ told_in w.wires
told_served_by position count None w there = refl
told_served_by position count (Some b) w there =
    let n = amount count b.up in
    either_world (n == 0) w (served position n b w) (told_in w.wires) refl (told_served position n b w there)

-- the device hears

told_left : (b : Bool) (a : Wire) → told (left_where b a) ≡ told a
told_left true a = refl
told_left false a = refl

either_link : (b : Bool) (l m : Link) (t : Bool) → told l.wire ≡ t → told m.wire ≡ t → told (cond b l m).wire ≡ t
either_link true l m t here there = here
either_link false l m t here there = there

told_heard_first : (n : ℕ) (l : Link) → told (heard_first n l).wire ≡ told l.wire
told_heard_first n l =
    let s = hears (take n l.wire.down.bytes) l.device in
    either_link (n == 0) l (heard n s l) (told l.wire) refl (told_left (is_left s.device.client) (put_up s.put (handed_down n l.wire)) ∙ told_put_up s.put (handed_down n l.wire))

told_end_heard : (position : ℕ) (l : Link) → told (end_heard position l).wire ≡ told l.wire
told_end_heard position l =
    either_link (has_wire position l.device.here && is_end_due l.wire.down) (link_of (down_end_reported l.wire) (loses l.device)) l (told l.wire) refl refl

told_heard_by : (position : ℕ) (count : Count) (l : Link) → told (heard_by position count l).wire ≡ told l.wire
told_heard_by position count l =
    let m = heard_first (amount count l.wire.down) l in
    either_link (has_wire position l.device.here) (end_heard position m) l (told l.wire) (told_end_heard position m ∙ told_heard_first (amount count l.wire.down) l) refl

told_down_to : (position : ℕ) (count : Count) (b : Wire) (o : Option DeviceState) (w : ByteWorld) → slice_get w.wires position ≡ Some b → told_in (down_to position count b o w).wires ≡ told_in w.wires
told_down_to position count b None w there = refl
told_down_to position count b (Some d) w there = told_put w.wires position b (heard_by position count (link_of b d)).wire there (told_heard_by position count (link_of b d))

pub told_down : (position : ℕ) (count : Count) (o : Option Wire) (w : ByteWorld) → slice_get w.wires position ≡ o → told_in (down_by position count o w).wires ≡ told_in w.wires
told_down position count None w there = refl
told_down position count (Some b) w there = told_down_to position count b (slice_get w.devices b.device) w there

pub told_cut : (position up down : ℕ) (w : ByteWorld) → told_in (moved (moves.Cut position up down) w).wires ≡ told_in w.wires
told_cut position up down w = told_changed position (cut_at up down) w.wires (λ b. refl)

-- the server is told of an end
pub told_end : (position : ℕ) (b : Wire) (ws : List Wire) → told_in (slice_set ws position (up_end_reported b)) ≡ slice_set (told_in ws) position true
told_end position b ws = told_set ws position (up_end_reported b)

-- ---- how many connections there are

long_set : {T : Type 0} (ts : List T) (position : ℕ) (t : T) → length (slice_set ts position t) ≡ length ts
long_set [] position t = refl
long_set (x ∷ ts) zero t = refl
long_set (x ∷ ts) (suc position) t = ap suc (long_set ts position t)

pub as_many : (v w : ByteWorld) → told_in v.wires ≡ told_in w.wires → length v.wires ≡ length w.wires
as_many v w same = sym (length-map v.wires told) ∙ ap (λ (ts : List Bool). length ts) same ∙ length-map w.wires told

pub as_many_told : (position : ℕ) (o : Option Wire) (w : ByteWorld) → length (reported_up position o w).wires ≡ length w.wires
as_many_told position None w = refl
as_many_told position (Some b) w = by (is_end_due b.up)
  where
    by : (c : Bool) → length (cond c (record w { server = after_gone (number_at position) w.moment w.server; wires = slice_set w.wires position (up_end_reported b) }) w).wires ≡ length w.wires
    by true = long_set w.wires position (up_end_reported b)
    by false = refl

-- the move is none that makes a connection
abbrev no_dial : Move → Bool
no_dial (moves.Dial position) = false
no_dial _ = true

pub one_dialed : (position : ℕ) (d : DeviceState) (w : ByteWorld) → length (dialed_by position (Some d) w).wires ≡ length w.wires + 1
one_dialed position d w =
    let long = ap (λ (ts : List Bool). length ts) (told_dialed position d w) in
    let more = length-append (told_in w.wires) (false ∷ []) in
    let before = length-map w.wires told in
    let after = length-map (dialed_by position (Some d) w).wires told in
    omega (arith, long, more, before, after)

many_dialed : (position : ℕ) (o : Option DeviceState) (w : ByteWorld) → length (dialed_by position o w).wires ≤ length w.wires + 1
many_dialed position None w = omega arith
many_dialed position (Some d) w = (let one = one_dialed position d w in omega (arith, one))

many_moved : (m : Move) (w : ByteWorld) → no_dial m ≡ true → length (moved m w).wires ≡ length w.wires
many_moved (moves.Dial position) w none = absurd (true≢false (sym none))
many_moved (moves.Forget position) w none = as_many (moved (moves.Forget position) w) w (told_forgot position (slice_get w.devices position) w)
many_moved (moves.Close position) w none = as_many (moved (moves.Close position) w) w (told_closed position (slice_get w.devices position) w)
many_moved (moves.Say position line to text private) w none = as_many (moved (moves.Say position line to text private) w) w (told_said position line to text private (slice_get w.devices position) w)
many_moved (moves.CatchUp position line most) w none = as_many (moved (moves.CatchUp position line most) w) w (told_caught_up position line most (slice_get w.devices position) w)
many_moved (moves.Tick milliseconds) w none = refl
many_moved (moves.Up position count) w none =
    let v = served_by position count (slice_get w.wires position) w in
    as_many_told position (slice_get v.wires position) v ∙ as_many v w (told_served_by position count (slice_get w.wires position) w refl)
many_moved (moves.Down position count) w none = as_many (moved (moves.Down position count) w) w (told_down position count (slice_get w.wires position) w refl)
many_moved (moves.Cut position up down) w none = as_many (moved (moves.Cut position up down) w) w (told_cut position up down w)

abbrev NoDials : List Move → Type 0
NoDials [] = Unit {0}
NoDials (m ∷ ms) = (no_dial m ≡ true) × NoDials ms

many_all : (ms : List Move) (w : ByteWorld) → NoDials ms → length (all_moved ms w).wires ≡ length w.wires
many_all [] w none = refl
many_all (m ∷ ms) w none = many_all ms (moved m w) none.1 ∙ many_moved m w none.0

no_both : (xs ys : List Move) → NoDials xs → NoDials ys → NoDials (xs ++ ys)
no_both [] ys a b = b
no_both (x ∷ xs) ys a b = (a.0, no_both xs ys a.1 b)

no_passes : (times position : ℕ) → NoDials (passes_of times position)
no_passes zero position = tt
no_passes (suc times) position = no_both (pass_of position) (passes_of times position) (refl, (refl, tt)) (no_passes times position)

no_round : (position count : ℕ) → NoDials (round_from position count)
no_round position zero = tt
no_round position (suc count) = no_both (pass_of position) (round_from (position + 1) count) (refl, (refl, tt)) (no_round (position + 1) count)

no_rounds : (times count : ℕ) → NoDials (rounds_of times count)
no_rounds zero count = tt
no_rounds (suc times) count = no_both (round_from 0 count) (rounds_of times count) (no_round 0 count) (no_rounds times count)

no_passes_where : (times : ℕ) (o : Option ℕ) → NoDials (passes_where times o)
no_passes_where times None = tt
no_passes_where times (Some position) = no_passes times position

no_move : (f : ℕ → Move) (o : Option ℕ) → ((position : ℕ) → no_dial (f position) ≡ true) → NoDials (move_of f o)
no_move f None each = tt
no_move f (Some position) each = (each position, tt)

no_common : (s : Step) (names : List (List ℕ)) (n : ℕ) → NoDials (common_moves names n s)
no_common (step.Account name) names n = tt
no_common (step.Device name account) names n = tt
no_common (step.Say device to text) names n = no_move (λ position. moves.Say position n to text false) (position_of device names) (λ position. refl)
no_common (step.Private device to text) names n = no_move (λ position. moves.Say position n to text true) (position_of device names) (λ position. refl)
no_common (step.Catchup device most) names n = no_move (λ position. moves.CatchUp position n most) (position_of device names) (λ position. refl)
no_common (step.Tick milliseconds) names n = (refl, tt)

many_dial : (o : Option ℕ) (w : ByteWorld) → length (all_moved (move_of moves.Dial o) w).wires ≤ length w.wires + 1
many_dial None w = omega arith
many_dial (Some position) w = many_dialed position (slice_get w.devices position) w

same_le : (ms : List Move) (w : ByteWorld) (d : ℕ) → NoDials ms → length w.wires ≤ d → length (all_moved ms w).wires ≤ d
same_le ms w d none few = (let same = many_all ms w none in omega (arith, same, few))

-- a line makes a connection at most, where it is a dial line
many_step : (s : WireStep) (n d : ℕ) (w : ByteWorld) → length w.wires ≤ d → length (all_moved (step_moves w.names (length w.wires) n s) w).wires ≤ with_dial s d
many_step (wire.Common s) n d w few = same_le (common_moves w.names n s) w d (no_common s w.names n) few
many_step (wire.Dial device) n d w few = (let more = many_dial (position_of device w.names) w in omega (arith, more, few))
many_step (wire.Forget device) n d w few = same_le (move_of moves.Forget (position_of device w.names)) w d (no_move moves.Forget (position_of device w.names) (λ position. refl)) few
many_step (wire.Close device) n d w few = same_le (move_of moves.Close (position_of device w.names)) w d (no_move moves.Close (position_of device w.names) (λ position. refl)) few
many_step (wire.Up k count) n d w few = same_le (move_of (λ position. moves.Up position count) (position_under k)) w d (no_move (λ position. moves.Up position count) (position_under k) (λ position. refl)) few
many_step (wire.Down k count) n d w few = same_le (move_of (λ position. moves.Down position count) (position_under k)) w d (no_move (λ position. moves.Down position count) (position_under k) (λ position. refl)) few
many_step (wire.Cut k up down) n d w few = same_le (move_of (λ position. moves.Cut position up down) (position_under k)) w d (no_move (λ position. moves.Cut position up down) (position_under k) (λ position. refl)) few
many_step (wire.Pass k times) n d w few = same_le (passes_where times (position_under k)) w d (no_passes_where times (position_under k)) few
many_step (wire.Run times) n d w few = same_le (rounds_of times (length w.wires)) w d (no_rounds times (length w.wires)) few

pub many_line : (line : WireLine) (d : ℕ) (w : ByteWorld) → length w.wires ≤ d → length (stepped line w).wires ≤ with_dial line.step d
many_line line d w few = many_step line.step line.number d w few
