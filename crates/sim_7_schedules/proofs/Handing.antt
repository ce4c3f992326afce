-- What is handed over of a connection: to whom it is doesn't change, and nothing of it is left.
use Rattle.std.proofs.Common.{◌≡◌, ℕ, zero, suc, ◌+◌, ◌==◌, ◌&&◌, Bool, true, false, cond, List, [], ◌∷◌, ◌++◌, Option, None, Some, length, refl, sym, ap, ◌∙◌, subst}
use Rattle.std.proofs.lemmas.Bool.{eq-eqb, eqb-true}
use Rattle.std.proofs.lemmas.Option.{none-some, same_Some}
use Rattle.std.specs.List.{slice_get, slice_set}
use Rattle.std.specs.Prelude.{drop, take}
use Rattle.cl_core.specs.Feeds.{bytes_step}
use Rattle.cl_handlers.specs.Speech.{in_bytes}
use Rattle.cmd_network.specs.Devices.{DeviceState, Spoken, has_wire, hears, is_left, loses, silent, after_step}
use Rattle.cmd_network.specs.Positions.{changed_at, changed_under}
use Rattle.cmd_network.specs.Wires.{amount, handed_down, handed_up, put_down, put_up, shut, up_end_reported}
use Rattle.cmd_network.specs.Wires as wires
use Rattle.cmd_network.specs.declared.wire.Wire.{Wire}
use Rattle.cmd_schedule.specs.declared.schedule.Count.{Count}
use Rattle.cmd_schedule.specs.declared.schedule.Count.TheVariants.{All}
use Rattle.cmd_schedule.specs.declared.schedule.Version.{Version}
use Rattle.cmd_world.specs.Effects.{Effects, all_emitted, effects_of, emitted}
use Rattle.cmd_world.specs.Lines.{round_from, rounds_of}
use Rattle.cmd_world.specs.Moves.{Link, Move, Up, Down, all_moved, moved, down_by, down_to, end_heard, heard_by, heard, heard_first, left_where, link_of, reported_up, served, served_by, step_of_piece}
use Rattle.cmd_world.specs.Worlds.{ByteWorld, number_at}
use Rattle.cmd_world.proofs.UpDevices.{up_devices}
use Rattle.net_pipes.specs.Pipes.{is_end_due}
use Rattle.srv_core.specs.Events.{after_gone}
use Rattle.srv_state.specs.State.{Out, Put, Shut, Took}
use Rattle.xml_trees.proofs.AttributeOrder.{nothing_left as none_long}

-- ---- whose connection it is

abbrev pub here_of : Option DeviceState → Option ℕ
here_of None = None
here_of (Some d) = d.here

-- the device at a place has the connection at a place
abbrev pub HasHere : ℕ → ℕ → ByteWorld → Type 0
HasHere i position W = here_of (slice_get W.devices i) ≡ Some position

pub here_there : (o : Option DeviceState) (position : ℕ) → here_of o ≡ Some position → (d : DeviceState) × (o ≡ Some d) × (d.here ≡ Some position)
here_there None position at = absurd (none-some position at)
here_there (Some d) position at = (d, refl, at)

-- one device is changed
set_here : (ds : List DeviceState) (k i : ℕ) (new old : DeviceState) (h : ℕ) → slice_get ds k ≡ Some old → (new.here ≡ Some h → old.here ≡ Some h) → here_of (slice_get (slice_set ds k new) i) ≡ Some h → here_of (slice_get ds i) ≡ Some h
set_here [] k i new old h found was at = absurd (let no : ⊥ = cc in no)
set_here (d ∷ ds) zero zero new old h found was at = ap (λ (e : DeviceState). e.here) (same_Some d old found) ∙ was at
set_here (d ∷ ds) zero (suc i) new old h found was at = at
set_here (d ∷ ds) (suc k) zero new old h found was at = at
set_here (d ∷ ds) (suc k) (suc i) new old h found was at = set_here ds k i new old h found was at

end_here : (p : ℕ) (l : Link) → (end_heard p l).device.here ≡ l.device.here
end_here p l = by (has_wire p l.device.here && is_end_due l.wire.down)
  where
    by : (b : Bool) → (cond b (link_of (wires.down_end_reported l.wire) (loses l.device)) l).device.here ≡ l.device.here
    by true = refl
    by false = refl

left_here : (b : Bool) (d : DeviceState) (h : ℕ) → (cond b (record d { here = None }) d).here ≡ Some h → d.here ≡ Some h
left_here true d h at = absurd (none-some h at)
left_here false d h at = at

first_here : (n : ℕ) (l : Link) (h : ℕ) → (heard_first n l).device.here ≡ Some h → l.device.here ≡ Some h
first_here n l h at = by (n == 0) at
  where
    by : (b : Bool) → (cond b l (heard n (hears (take n l.wire.down.bytes) l.device) l)).device.here ≡ Some h → l.device.here ≡ Some h
    by true at = at
    by false at = left_here (is_left (after_step (bytes_step in_bytes (silent l.device.client) (take n l.wire.down.bytes)) l.device).device.client) (after_step (bytes_step in_bytes (silent l.device.client) (take n l.wire.down.bytes)) l.device).device h at

heard_here : (p : ℕ) (count : Count) (l : Link) (h : ℕ) → (heard_by p count l).device.here ≡ Some h → l.device.here ≡ Some h
heard_here p count l h at = by (has_wire p l.device.here) at
  where
    by : (b : Bool) → (cond b (end_heard p (heard_first (amount count l.wire.down) l)) l).device.here ≡ Some h → l.device.here ≡ Some h
    by true at = first_here (amount count l.wire.down) l h (sym (end_here p (heard_first (amount count l.wire.down) l)) ∙ at)
    by false at = at

down_here : (p : ℕ) (count : Count) (W : ByteWorld) (i h : ℕ) → HasHere i h (moved (Down p count) W) → HasHere i h W
down_here p count W i h at = of_wire (slice_get W.wires p) at
  where
    of_device : (wire : Wire) (o : Option DeviceState) → slice_get W.devices wire.device ≡ o → here_of (slice_get (down_to p count wire o W).devices i) ≡ Some h → HasHere i h W
    of_device wire None none at = at
    of_device wire (Some d) there at = set_here W.devices wire.device i (heard_by p count (link_of wire d)).device d h there (heard_here p count (link_of wire d) h) at

    of_wire : (o : Option Wire) → here_of (slice_get (down_by p count o W).devices i) ≡ Some h → HasHere i h W
    of_wire None at = at
    of_wire (Some wire) at = of_device wire (slice_get W.devices wire.device) refl at

-- ---- moves of a run

abbrev pub IsHanding : Move → Type 0
IsHanding (Up position count) = Unit {0}
IsHanding (Down position count) = Unit {0}
IsHanding _ = ⊥

abbrev pub AreHandings : List Move → Type 0
AreHandings [] = Unit {0}
AreHandings (m ∷ ms) = IsHanding m × AreHandings ms

pub handings_both : (ms more : List Move) → AreHandings ms → AreHandings more → AreHandings (ms ++ more)
handings_both [] more a b = b
handings_both (m ∷ ms) more a b = (a.0, handings_both ms more a.1 b)

pub round_hands : (position count : ℕ) → AreHandings (round_from position count)
round_hands position zero = tt
round_hands position (suc count) = (tt, (tt, round_hands (position + 1) count))

pub rounds_hand : (times count : ℕ) → AreHandings (rounds_of times count)
rounds_hand zero count = tt
rounds_hand (suc times) count = handings_both (round_from 0 count) (rounds_of times count) (round_hands 0 count) (rounds_hand times count)

pub hand_before : (m : Move) (W : ByteWorld) (i h : ℕ) → IsHanding m → HasHere i h (moved m W) → HasHere i h W
hand_before (Up p count) W i h is at = ap (λ ds. here_of (slice_get ds i)) (sym (up_devices p count W)) ∙ at
hand_before (Down p count) W i h is at = down_here p count W i h at
hand_before _ W i h is at = absurd is

-- who has a connection in the end had it before
pub hands_before : (ms : List Move) (W : ByteWorld) (i h : ℕ) → AreHandings ms → HasHere i h (all_moved ms W) → HasHere i h W
hands_before [] W i h are at = at
hands_before (m ∷ ms) W i h are at = hand_before m W i h are.0 (hands_before ms (moved m W) i h are.1 at)

-- ---- nothing is left

abbrev pub IsUpNone : ℕ → List Wire → Type 0
IsUpNone p ws = (b : Wire) → slice_get ws p ≡ Some b → b.up.bytes ≡ []

abbrev pub IsDownNone : ℕ → List Wire → Type 0
IsDownNone p ws = (b : Wire) → slice_get ws p ≡ Some b → b.down.bytes ≡ []

drop_all : (xs : List ℕ) → drop (length xs) xs ≡ []
drop_all [] = refl
drop_all (x ∷ xs) = drop_all xs

changed_none : (f : Wire → Wire) → ((b : Wire) → b.up.bytes ≡ [] → (f b).up.bytes ≡ []) → (q p : ℕ) (ws : List Wire) → IsUpNone p ws → IsUpNone p (changed_at q f ws)
changed_none f keeps q p [] none b at = none b at
changed_none f keeps zero zero (w ∷ ws) none b at = subst (λ (x : Wire). x.up.bytes ≡ []) (same_Some (f w) b at) (keeps w (none w refl))
changed_none f keeps zero (suc p) (w ∷ ws) none b at = none b at
changed_none f keeps (suc q) zero (w ∷ ws) none b at = none b at
changed_none f keeps (suc q) (suc p) (w ∷ ws) none b at = changed_none f keeps q p ws (λ c there. none c there) b at

under_none : (f : Wire → Wire) → ((b : Wire) → b.up.bytes ≡ [] → (f b).up.bytes ≡ []) → (k p : ℕ) (ws : List Wire) → IsUpNone p ws → IsUpNone p (changed_under k f ws)
under_none f keeps zero p ws none b at = none b at
under_none f keeps (suc q) p ws none b at = changed_none f keeps q p ws none b at

emitted_none : (version : Version) (moment : ℕ) (out : Out (List ℕ)) (p : ℕ) (e : Effects) → IsUpNone p e.wires → IsUpNone p (emitted version moment out e).wires
emitted_none version moment (Put k bytes) p e none = under_none (put_down bytes) (λ b is. is) k p e.wires none
emitted_none version moment (Shut k) p e none = under_none shut (λ b is. refl) k p e.wires none
emitted_none version moment (Took from to origin) p e none = none

all_emitted_none : (version : Version) (moment : ℕ) (outs : List (Out (List ℕ))) (p : ℕ) (e : Effects) → IsUpNone p e.wires → IsUpNone p (all_emitted version moment outs e).wires
all_emitted_none version moment [] p e none = none
all_emitted_none version moment (out ∷ outs) p e none = all_emitted_none version moment outs p (emitted version moment out e) (emitted_none version moment out p e none)

set_none : (ws : List Wire) (p : ℕ) (new : Wire) → new.up.bytes ≡ [] → IsUpNone p (slice_set ws p new)
set_none [] p new is b at = absurd (none-some b at)
set_none (w ∷ ws) zero new is b at = subst (λ (x : Wire). x.up.bytes ≡ []) (same_Some new b at) is
set_none (w ∷ ws) (suc p) new is b at = set_none ws p new is b at

set_down_none : (ws : List Wire) (p : ℕ) (new : Wire) → new.down.bytes ≡ [] → IsDownNone p (slice_set ws p new)
set_down_none [] p new is b at = absurd (none-some b at)
set_down_none (w ∷ ws) zero new is b at = subst (λ (x : Wire). x.down.bytes ≡ []) (same_Some new b at) is
set_down_none (w ∷ ws) (suc p) new is b at = set_down_none ws p new is b at

-- behind all bytes up none is on its way there
pub up_emptied : (p : ℕ) (W : ByteWorld) → IsUpNone p (moved (Up p All) W).wires
up_emptied p W = told (slice_get (served_by p All (slice_get W.wires p) W).wires p) (served_by p All (slice_get W.wires p) W) refl (of_wire (slice_get W.wires p) refl)
  where
    chosen : (b : Bool) (wire : Wire) (V : ByteWorld) → slice_get V.wires p ≡ Some wire → IsUpNone p V.wires → IsUpNone p (cond b (record V { server = after_gone (number_at p) V.moment V.server; wires = slice_set V.wires p (up_end_reported wire) }) V).wires
    chosen true wire V there none = set_none V.wires p (up_end_reported wire) (none wire there)
    chosen false wire V there none = none

    told : (o : Option Wire) (V : ByteWorld) → slice_get V.wires p ≡ o → IsUpNone p V.wires → IsUpNone p (reported_up p o V).wires
    told None V is none = none
    told (Some wire) V is none = chosen (is_end_due wire.up) wire V is none

    first : (wire : Wire) (b : Bool) → slice_get W.wires p ≡ Some wire → (length wire.up.bytes == 0) ≡ b → IsUpNone p (cond b W (served p (length wire.up.bytes) wire W)).wires
    first wire true there is = λ c at. subst (λ (x : Wire). x.up.bytes ≡ []) (same_Some wire c (sym there ∙ at)) (none_long wire.up.bytes (eqb-true (length wire.up.bytes) 0 is))
    first wire false there is = all_emitted_none W.version W.moment (step_of_piece (number_at p) (take (length wire.up.bytes) wire.up.bytes) W.moment W.server).outs p (effects_of (slice_set W.wires p (handed_up (length wire.up.bytes) wire)) W.takes) (set_none W.wires p (handed_up (length wire.up.bytes) wire) (drop_all wire.up.bytes))

    of_wire : (o : Option Wire) → slice_get W.wires p ≡ o → IsUpNone p (served_by p All o W).wires
    of_wire None is = λ b at. absurd (none-some b (sym is ∙ at))
    of_wire (Some wire) is = first wire (length wire.up.bytes == 0) is refl

left_none : (b : Bool) (w : Wire) → w.down.bytes ≡ [] → (cond b (wires.left w) w).down.bytes ≡ []
left_none true w is = refl
left_none false w is = is

first_none : (l : Link) (b : Bool) (s : Spoken) → (length l.wire.down.bytes == 0) ≡ b → (cond b l (link_of (left_where (is_left s.device.client) (put_up s.put (handed_down (length l.wire.down.bytes) l.wire))) s.device)).wire.down.bytes ≡ []
first_none l true s is = none_long l.wire.down.bytes (eqb-true (length l.wire.down.bytes) 0 is)
first_none l false s is = left_none (is_left s.device.client) (put_up s.put (handed_down (length l.wire.down.bytes) l.wire)) (drop_all l.wire.down.bytes)

end_none : (p : ℕ) (l : Link) → l.wire.down.bytes ≡ [] → (end_heard p l).wire.down.bytes ≡ []
end_none p l is = by (has_wire p l.device.here && is_end_due l.wire.down)
  where
    by : (b : Bool) → (cond b (link_of (wires.down_end_reported l.wire) (loses l.device)) l).wire.down.bytes ≡ []
    by true = is
    by false = is

heard_none : (p : ℕ) (l : Link) → l.device.here ≡ Some p → (heard_by p All l).wire.down.bytes ≡ []
heard_none p l here =
    let has : has_wire p l.device.here ≡ true = ap (has_wire p) here ∙ eq-eqb p p refl in
    subst (λ b. (cond b (end_heard p (heard_first (length l.wire.down.bytes) l)) l).wire.down.bytes ≡ []) (sym has)
    (end_none p (heard_first (length l.wire.down.bytes) l) (first_none l (length l.wire.down.bytes == 0) (hears (take (length l.wire.down.bytes) l.wire.down.bytes) l.device) refl))

-- behind all bytes down to the device none is on its way there
pub down_emptied : (p : ℕ) (W : ByteWorld) (wire : Wire) (d : DeviceState) → slice_get W.wires p ≡ Some wire → slice_get W.devices wire.device ≡ Some d → d.here ≡ Some p → IsDownNone p (moved (Down p All) W).wires
down_emptied p W wire d at there here =
    subst (λ o. IsDownNone p (down_by p All o W).wires) (sym at)
    (subst (λ o. IsDownNone p (down_to p All wire o W).wires) (sym there)
    (set_down_none W.wires p (heard_by p All (link_of wire d)).wire (heard_none p (link_of wire d) here)))
