-- How many connections there are: a dial makes one, and no other move makes any.
use Rattle.std.proofs.Common.{◌≡◌, ℕ, zero, suc, ◌+◌, ◌≤◌, Bool, true, false, cond, List, [], ◌∷◌, ◌++◌, Option, None, Some, Result, Ok, Err, length, refl, sym, ap, ◌∙◌, subst, arith, inl, inr}
use Rattle.std.proofs.lemmas.List.{length_push}
use Rattle.std.specs.List.{AllByRecursion, slice_get}
use Rattle.cl_core.specs.UserCalls.{dials}
use Rattle.cl_handlers.specs.Clients.{ClientStep}
use Rattle.cl_handlers.specs.Speech.{in_items}
use Rattle.srv_core.specs.Table.{after_item}
use Rattle.srv_state.specs.Moments.{at_moment, gone_at}
use Rattle.sim_3_images.proofs.UpMoves.{length_items_emitted}
use Rattle.sim_3_images.specs.ItemRuns.{AreServedUps, downs, moved_where, ups}
use Rattle.sim_3_items.specs.ItemMoves.{ItemMove, CatchUp, Close, Cut, Dial, Down, DownEnd, Forget, Say, Tick, Up, UpEnd, all_moved, fed_of, has_wire, moved, step_of}
use Rattle.sim_3_items.specs.ItemMoves as items
use Rattle.sim_3_items.specs.ItemPipes.{ItemWire, fresh_wire, handed_up, is_end_due, left, put_up, up_end_reported}
use Rattle.sim_3_items.specs.ItemWorlds.{ItemDevice, ItemWorld, itself, read_of}
use Rattle.cmd_network.specs.Positions.{changed_at, changed_where}
use Rattle.xml_writer.specs.Items.{ItemOut}

at_many : (p : ℕ) (f : ItemWire → ItemWire) (l : List ItemWire) → length (changed_at p f l) ≡ length l
at_many p f [] = refl
at_many zero f (x ∷ l) = refl
at_many (suc p) f (x ∷ l) = ap suc (at_many p f l)

where_many : (o : Option ℕ) (f : ItemWire → ItemWire) (l : List ItemWire) → length (changed_where o f l) ≡ length l
where_many None f l = refl
where_many (Some p) f l = at_many p f l

-- as many as before
abbrev pub AsMany : ItemWorld → ItemWorld → Type 0
AsMany w next = length next.wires ≡ length w.wires

said_many : {T E : Type 0} (r : Result T E) (position : ℕ) (d : ItemDevice) (t : ClientStep ItemOut ItemOut) (w : ItemWorld) → AsMany w (items.said_in r position d t w)
said_many (Ok done) position d t w = where_many d.here _ w.wires
said_many (Err fault) position d t w = refl

at_wire_many : (position : ℕ) (f : ItemWire → ItemDevice → ItemWorld → ItemWorld) (o : Option ItemWire) (w : ItemWorld) → ((wire : ItemWire) (d : ItemDevice) → AsMany w (f wire d w)) → AsMany w (items.at_wire position f o w)
at_wire_many position f None w each = refl
at_wire_many position f (Some wire) w each = by (slice_get w.devices wire.device)
  where
    chosen : (b : Bool) (d : ItemDevice) → AsMany w (cond b (f wire d w) w)
    chosen true d = each wire d
    chosen false d = refl

    by : (o : Option ItemDevice) → AsMany w (items.at_device position f wire o w)
    by None = refl
    by (Some d) = chosen (has_wire position d.here) d

up_many : (position : ℕ) (o : Option ItemWire) (w : ItemWorld) → AsMany w (items.served_by position o w)
up_many position None w = refl
up_many position (Some wire) w = by wire.up.items
  where
    by : (l : List ItemOut) → AsMany w (items.served_first position l w)
    by [] = refl
    by (i ∷ l) = length_items_emitted (after_item itself (position + 1) (read_of i) (step_of w.server)).outs (changed_at position handed_up w.wires) ∙ at_many position handed_up w.wires

told_many : (position : ℕ) (o : Option ItemWire) (w : ItemWorld) → AsMany w (items.reported_up position o w)
told_many position None w = refl
told_many position (Some wire) w = by (is_end_due wire.up)
  where
    by : (b : Bool) → AsMany w (cond b (record w { server = gone_at (position + 1) (at_moment w.moment w.server); wires = changed_at position up_end_reported w.wires }) w)
    by true = at_many position up_end_reported w.wires
    by false = refl

-- each move but a dial
abbrev pub IsNoDial : ItemMove → Type 0
IsNoDial (Dial device mine yours) = ⊥
IsNoDial m = Unit {0}

pub move_many : (m : ItemMove) (w : ItemWorld) → IsNoDial m → AsMany w (moved m w)
move_many (Dial device mine yours) w none = absurd none
move_many (Forget device) w none = by (slice_get w.devices device)
  where
    by : (o : Option ItemDevice) → AsMany w (items.forgot_by device o w)
    by None = refl
    by (Some d) = where_many d.here _ w.wires
move_many (Close device) w none = by (slice_get w.devices device)
  where
    by : (o : Option ItemDevice) → AsMany w (items.closed_by device o w)
    by None = refl
    by (Some d) = where_many d.here _ _ ∙ where_many d.here _ w.wires
move_many (Say device to text private) w none = by (slice_get w.devices device)
  where
    by : (o : Option ItemDevice) → AsMany w (items.said_by device to text private o w)
    by None = refl
    by (Some d) = said_many _ device d _ w
move_many (CatchUp device most) w none = by (slice_get w.devices device)
  where
    by : (o : Option ItemDevice) → AsMany w (items.caught_up_by device most o w)
    by None = refl
    by (Some d) = said_many _ device d _ w
move_many (Tick ms) w none = refl
move_many (Up position) w none = up_many position (slice_get w.wires position) w
move_many (UpEnd position) w none = told_many position (slice_get w.wires position) w
move_many (Down position) w none = at_wire_many position _ (slice_get w.wires position) w (λ wire d. by wire d wire.down.items)
  where
    by : (wire : ItemWire) (d : ItemDevice) (l : List ItemOut) → AsMany w (items.heard_first position wire.device l d w)
    by wire d [] = refl
    by wire d (i ∷ l) = at_many position _ w.wires
move_many (DownEnd position) w none = at_wire_many position _ (slice_get w.wires position) w (λ wire d. by wire d (is_end_due wire.down))
  where
    by : (wire : ItemWire) (d : ItemDevice) (b : Bool) → AsMany w (items.end_heard position wire.device b d w)
    by wire d true = at_many position _ w.wires
    by wire d false = refl
move_many (Cut position up down) w none = at_many position _ w.wires

pub moves_many : (ms : List ItemMove) (w : ItemWorld) → AllByRecursion IsNoDial ms → AsMany w (all_moved ms w)
moves_many [] w none = refl
moves_many (m ∷ ms) w none = moves_many ms (moved m w) none.1 ∙ move_many m w none.0

-- a dial makes one at most
pub dial_many : (device : ℕ) (mine yours : List ℕ) (w : ItemWorld) → length (moved (Dial device mine yours) w).wires ≤ length w.wires + 1
dial_many device mine yours w = by (slice_get w.devices device)
  where
    by : (o : Option ItemDevice) → length (items.dialed_by device mine yours o w).wires ≤ length w.wires + 1
    by None = omega arith
    by (Some d) = let both = length_push (changed_where d.here left w.wires) (put_up (dials in_items mine (fed_of d.client)).turn.out.put (fresh_wire device)) in let same = where_many d.here left w.wires in omega arith

-- ---- runs of items of one connection

ups_none : (position count : ℕ) → AllByRecursion IsNoDial (ups position count)
ups_none position zero = tt
ups_none position (suc count) = (tt, ups_none position count)

pub downs_none : (position count : ℕ) (ended : Bool) → AllByRecursion IsNoDial (downs position count ++ moved_where (DownEnd position) ended)
downs_none position zero true = (tt, tt)
downs_none position zero false = tt
downs_none position (suc count) ended = (tt, downs_none position count ended)

end_none : (ms : List ItemMove) (position : ℕ) (ended : Bool) → AllByRecursion IsNoDial ms → AllByRecursion IsNoDial (ms ++ moved_where (UpEnd position) ended)
end_none [] position true none = (tt, tt)
end_none [] position false none = tt
end_none (m ∷ ms) position ended none = (none.0, end_none ms position ended none.1)

pub served_none : (position : ℕ) (first : List ItemMove) (ended : Bool) → AreServedUps position first → AllByRecursion IsNoDial (first ++ moved_where (UpEnd position) ended)
served_none position first ended (inl is) = subst (λ ms. AllByRecursion IsNoDial (ms ++ moved_where (UpEnd position) ended)) (sym is) (end_none [] position ended tt)
served_none position first ended (inr some) = subst (λ ms. AllByRecursion IsNoDial (ms ++ moved_where (UpEnd position) ended)) (sym some.1) (end_none (Tick 0 ∷ ups position some.0) position ended (tt, ups_none position some.0))

-- ---- the moment, which what is handed to a device leaves

pub down_moment : (position : ℕ) (w : ItemWorld) → (moved (Down position) w).moment ≡ w.moment
down_moment position w = of_wire (slice_get w.wires position)
  where
    f : ItemWire → ItemDevice → ItemWorld → ItemWorld
    f wire d = items.heard_first position wire.device wire.down.items d

    heard : (wire : ItemWire) (d : ItemDevice) (l : List ItemOut) → (items.heard_first position wire.device l d w).moment ≡ w.moment
    heard wire d [] = refl
    heard wire d (i ∷ l) = refl

    chosen : (b : Bool) (wire : ItemWire) (d : ItemDevice) → (cond b (f wire d w) w).moment ≡ w.moment
    chosen true wire d = heard wire d wire.down.items
    chosen false wire d = refl

    of_device : (wire : ItemWire) (o : Option ItemDevice) → (items.at_device position f wire o w).moment ≡ w.moment
    of_device wire None = refl
    of_device wire (Some d) = chosen (has_wire position d.here) wire d

    of_wire : (o : Option ItemWire) → (items.at_wire position f o w).moment ≡ w.moment
    of_wire None = refl
    of_wire (Some wire) = of_device wire (slice_get w.devices wire.device)
