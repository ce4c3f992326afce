-- Moves of items keep the numbers of sessions within the connections that were dialed.
use Rattle.std.proofs.Common.{◌≡◌, ℕ, zero, suc, ◌+◌, ◌<◌, ◌≤◌, ◌^◌, Bool, true, false, cond, List, [], ◌∷◌, ◌++◌, Option, Some, None, Result, Ok, Err, length, refl, sym, ap, subst, ◌∙◌, arith, length-append}
use Rattle.std.specs.Prelude.{slice_get}
use Rattle.cl_core.specs.UserCalls.{catch_up_answer, catches_up, closes, dials, say_answer, says}
use Rattle.cl_handlers.specs.Clients.{ClientStep}
use Rattle.cl_handlers.specs.Speech.{in_items}
use Rattle.srv_state.specs.Moments.{at_moment, gone_at, with_fresh}
use Rattle.sim_3_items.specs.ItemMoves.{Close, CatchUp, Cut, Dial, Down, DownEnd, Forget, ItemMove, Say, Tick, Up, UpEnd, all_moved, at_device, at_wire, caught_up_by, closed_by, dialed_by, end_heard, fed_of, forgot_by, has_wire, heard_first, moved, said_by, said_in, served_by, served_first, spoke, step_of, reported_up}
use Rattle.sim_3_items.specs.ItemPipes.{ItemWire, cut_at, down_end_reported, fresh_wire, handed_up, is_end_due, left, put_up, up_end_reported}
use Rattle.sim_3_items.specs.ItemWorlds.{ItemDevice, ItemWorld, itself, read_of, silent_client_step}
use Rattle.srv_core.specs.Table.{after_item}
use Rattle.sim_3_images.proofs.UpMoves.{length_items_emitted}
use Rattle.sim_3_images.proofs.UserMoves.{length_where}
use Rattle.sim_3_images.proofs.Within.{fresh_within, gone_within, item_within, moment_within}
use Rattle.sim_3_images.specs.Unbound.{IsWithin}
use Rattle.sim_3_images.specs.Worlds.{IsWorldWithin}
use Rattle.cmd_network.specs.Positions.{changed_at, changed_where}
use Rattle.xml_writer.specs.Items.{ItemOut}

-- ---- how many connections there are

pub at_long : {T : Type 0} (position : ℕ) (f : T → T) (l : List T) → length (changed_at position f l) ≡ length l
at_long position f [] = refl
at_long zero f (x ∷ l) = refl
at_long (suc position) f (x ∷ l) = ap suc (at_long position f l)

-- ---- moves

-- there are as many connections or more, and numbers are within them where they were
record Goes (w v : ItemWorld) : Type 0 where
  more : length w.wires ≤ length v.wires
  within : IsWorldWithin w → length v.wires + 1 < 2 ^ 64 → IsWorldWithin v

-- as many connections, and the server comes to this
same_many : (w v : ItemWorld) → length v.wires ≡ length w.wires → ((n : ℕ) → n + 1 < 2 ^ 64 → IsWithin n w.server → IsWithin n v.server) → Goes w v
same_many w v same server = record {
  more = omega (arith, same);
  within = λ is fits. subst (λ n. IsWithin n v.server) (sym same) (server (length w.wires) (omega (arith, same, fits)) is);
}

-- and the server is as it was
quiet : (w v : ItemWorld) → length v.wires ≡ length w.wires → v.server ≡ w.server → Goes w v
quiet w v same server = same_many w v same (λ n fits is. subst (IsWithin n) (sym server) is)

nothing : (w : ItemWorld) → Goes w w
nothing w = quiet w w refl refl

either : (w : ItemWorld) (b : Bool) (u v : ItemWorld) → Goes w u → Goes w v → Goes w (cond b u v)
either w true u v here there = here
either w false u v here there = there

-- a dial makes one connection
pub dialed_many : (position : ℕ) (mine : List ℕ) (d : ItemDevice) (w : ItemWorld) →
    length (changed_where d.here left w.wires ++ put_up (dials in_items mine (fed_of d.client)).turn.out.put (fresh_wire position) ∷ []) ≡ length w.wires + 1
dialed_many position mine d w =
    let old = length_where d.here left w.wires in
    let all = length-append (changed_where d.here left w.wires) (put_up (dials in_items mine (fed_of d.client)).turn.out.put (fresh_wire position) ∷ []) in
    omega (arith, old, all)

dials_go : (position : ℕ) (mine yours : List ℕ) (o : Option ItemDevice) (w : ItemWorld) → Goes w (dialed_by position mine yours o w)
dials_go position mine yours None w = nothing w
dials_go position mine yours (Some d) w = record {
  more = (let long = dialed_many position mine d w in omega (arith, long));
  within = λ is fits.
      subst (λ n. IsWithin n (with_fresh (length w.wires + 1) yours (at_moment w.moment w.server))) (sym (dialed_many position mine d w))
      (fresh_within (length w.wires + 1) yours (length w.wires) (at_moment w.moment w.server) (moment_within w.moment (length w.wires) w.server is));
}

forgets_go : (position : ℕ) (o : Option ItemDevice) (w : ItemWorld) → Goes w (forgot_by position o w)
forgets_go position None w = nothing w
forgets_go position (Some d) w = quiet w (forgot_by position (Some d) w) (length_where d.here left w.wires) refl

closes_go : (position : ℕ) (o : Option ItemDevice) (w : ItemWorld) → Goes w (closed_by position o w)
closes_go position None w = nothing w
closes_go position (Some d) w =
    let put = (closes in_items (fed_of d.client)).turn.out.put in
    quiet w (closed_by position (Some d) w) (length_where d.here left (changed_where d.here (put_up put) w.wires) ∙ length_where d.here (put_up put) w.wires) refl

spoken_go : {T E : Type 0} (r : Result T E) (position : ℕ) (d : ItemDevice) (t : ClientStep ItemOut ItemOut) (w : ItemWorld) → Goes w (said_in r position d t w)
spoken_go (Ok done) position d t w = quiet w (spoke position d t w) (length_where d.here (put_up t.out.put) w.wires) refl
spoken_go (Err fault) position d t w = nothing w

says_go : (position : ℕ) (to text : List ℕ) (private : Bool) (o : Option ItemDevice) (w : ItemWorld) → Goes w (said_by position to text private o w)
says_go position to text private None w = nothing w
says_go position to text private (Some d) w = spoken_go (say_answer d.client text) position d (says in_items (silent_client_step d.client) to text private) w

catches_go : (position most : ℕ) (o : Option ItemDevice) (w : ItemWorld) → Goes w (caught_up_by position most o w)
catches_go position most None w = nothing w
catches_go position most (Some d) w = spoken_go (catch_up_answer d.client) position d (catches_up in_items (silent_client_step d.client) most) w

first_goes : (position : ℕ) (items : List ItemOut) (w : ItemWorld) → Goes w (served_first position items w)
first_goes position [] w = nothing w
first_goes position (i ∷ items) w =
    same_many w (served_first position (i ∷ items) w) (length_items_emitted (after_item itself (position + 1) (read_of i) (step_of w.server)).outs (changed_at position handed_up w.wires) ∙ at_long position handed_up w.wires)
    (λ n fits is. item_within itself (position + 1) (read_of i) n (step_of w.server) fits is)

served_goes : (position : ℕ) (o : Option ItemWire) (w : ItemWorld) → Goes w (served_by position o w)
served_goes position None w = nothing w
served_goes position (Some wire) w = first_goes position wire.up.items w

told_goes : (position : ℕ) (o : Option ItemWire) (w : ItemWorld) → Goes w (reported_up position o w)
told_goes position None w = nothing w
told_goes position (Some wire) w =
    either w (is_end_due wire.up) (record w { server = gone_at (position + 1) (at_moment w.moment w.server); wires = changed_at position up_end_reported w.wires }) w
    (same_many w (record w { server = gone_at (position + 1) (at_moment w.moment w.server); wires = changed_at position up_end_reported w.wires }) (at_long position up_end_reported w.wires)
    (λ n fits is. gone_within (position + 1) n (at_moment w.moment w.server) (moment_within w.moment n w.server is)))
    (nothing w)

heard_goes : (position device : ℕ) (items : List ItemOut) (d : ItemDevice) (w : ItemWorld) → Goes w (heard_first position device items d w)
heard_goes position device [] d w = nothing w
heard_goes position device (i ∷ items) d w = quiet w (heard_first position device (i ∷ items) d w) (at_long position _ w.wires) refl

end_goes : (position device : ℕ) (due : Bool) (d : ItemDevice) (w : ItemWorld) → Goes w (end_heard position device due d w)
end_goes position device false d w = nothing w
end_goes position device true d w = quiet w (end_heard position device true d w) (at_long position down_end_reported w.wires) refl

at_device_goes : (position : ℕ) (f : ItemWire → ItemDevice → ItemWorld → ItemWorld) → ((wire : ItemWire) (d : ItemDevice) (w : ItemWorld) → Goes w (f wire d w)) → (wire : ItemWire) (o : Option ItemDevice) (w : ItemWorld)
    → Goes w (at_device position f wire o w)
at_device_goes position f each wire None w = nothing w
at_device_goes position f each wire (Some d) w = either w (has_wire position d.here) (f wire d w) w (each wire d w) (nothing w)

at_wire_goes : (position : ℕ) (f : ItemWire → ItemDevice → ItemWorld → ItemWorld) → ((wire : ItemWire) (d : ItemDevice) (w : ItemWorld) → Goes w (f wire d w)) → (o : Option ItemWire) (w : ItemWorld) → Goes w (at_wire position f o w)
at_wire_goes position f each None w = nothing w
at_wire_goes position f each (Some wire) w = at_device_goes position f each wire (slice_get w.devices wire.device) w

move_goes : (m : ItemMove) (w : ItemWorld) → Goes w (moved m w)
move_goes (Dial device mine yours) w = dials_go device mine yours (slice_get w.devices device) w
move_goes (Forget device) w = forgets_go device (slice_get w.devices device) w
move_goes (Close device) w = closes_go device (slice_get w.devices device) w
move_goes (Say device to text private) w = says_go device to text private (slice_get w.devices device) w
move_goes (CatchUp device most) w = catches_go device most (slice_get w.devices device) w
move_goes (Tick milliseconds) w = same_many w (moved (Tick milliseconds) w) refl (λ n fits is. moment_within (w.moment + milliseconds) n w.server is)
move_goes (Up position) w = served_goes position (slice_get w.wires position) w
move_goes (UpEnd position) w = told_goes position (slice_get w.wires position) w
move_goes (Down position) w = at_wire_goes position (λ wire d. heard_first position wire.device wire.down.items d) (λ wire d v. heard_goes position wire.device wire.down.items d v) (slice_get w.wires position) w
move_goes (DownEnd position) w = at_wire_goes position (λ wire d. end_heard position wire.device (is_end_due wire.down) d) (λ wire d v. end_goes position wire.device (is_end_due wire.down) d v) (slice_get w.wires position) w
move_goes (Cut position up down) w = quiet w (moved (Cut position up down) w) (at_long position (cut_at up down) w.wires) refl

moves_go : (moves : List ItemMove) (w : ItemWorld) → Goes w (all_moved moves w)
moves_go [] w = nothing w
moves_go (m ∷ moves) w =
    let one = move_goes m w in
    let rest = moves_go moves (moved m w) in
    let a = one.more in
    let b = rest.more in
    record { more = omega (arith, a, b); within = λ is fits. rest.within (one.within is (omega (arith, b, fits))) fits }

pub move_within : (m : ItemMove) (w : ItemWorld) → IsWorldWithin w → length (moved m w).wires + 1 < 2 ^ 64 → IsWorldWithin (moved m w)
move_within m w is fits = (move_goes m w).within is fits

pub moves_within : (moves : List ItemMove) (w : ItemWorld) → IsWorldWithin w → length (all_moved moves w).wires + 1 < 2 ^ 64 → IsWorldWithin (all_moved moves w)
moves_within moves w is fits = (moves_go moves w).within is fits
