-- The connections that devices have: a move of a connection leaves those of other devices, and makes none.
use Rattle.std.proofs.Common.{◌≡◌, ℕ, zero, suc, ◌+◌, ◌==◌, Bool, true, false, cond, List, [], ◌∷◌, Option, None, Some, refl, sym, ap, ◌∙◌, inl, inr}
use Rattle.std.proofs.lemmas.Bool.{cases_Bool, eqb-true}
use Rattle.std.proofs.lemmas.Option.{same_Some}
use Rattle.std.specs.List.{slice_get, slice_set}
use Rattle.srv_state.specs.Moments.{at_moment, gone_at}
use Rattle.cmd_network.specs.Positions.{changed_at}
use Rattle.sim_3_images.specs.Notes.{heard_at, heard_notes, heard_on, item_notes}
use Rattle.sim_3_items.specs.ItemMoves.{Down, DownEnd, Tick, Up, UpEnd, has_wire, here_after, moved}
use Rattle.sim_3_items.specs.ItemMoves as items
use Rattle.sim_3_items.specs.ItemPipes.{ItemWire, is_end_due, up_end_reported}
use Rattle.sim_3_items.specs.ItemWorlds.{ItemDevice, ItemWorld}
use Rattle.sim_5_moves.proofs.Doing.{here_is}
use Rattle.xml_writer.specs.Items.{ItemOut}

abbrev pub here_of : Option ItemDevice → Option ℕ
here_of None = None
here_of (Some d) = d.here

-- the connection that a device has
abbrev pub here_at : ℕ → ItemWorld → Option ℕ
here_at i w = here_of (slice_get w.devices i)

-- it is the one that it had
abbrev pub MakesNone : ItemWorld → ItemWorld → Type 0
MakesNone w next = (i h : ℕ) → here_at i next ≡ Some h → here_at i w ≡ Some h

pub same_devices : (w next : ItemWorld) → next.devices ≡ w.devices → MakesNone w next
same_devices w next same i h at = ap (λ ds. here_of (slice_get ds i)) (sym same) ∙ at

-- one device is changed
set_here : (ds : List ItemDevice) (k i : ℕ) (new old : ItemDevice) (h : ℕ) → slice_get ds k ≡ Some old → (new.here ≡ Some h → old.here ≡ Some h) → here_of (slice_get (slice_set ds k new) i) ≡ Some h → here_of (slice_get ds i) ≡ Some h
set_here [] k i new old h found was at = absurd (let no : ⊥ = cc in no)
set_here (d ∷ ds) zero zero new old h found was at = ap (λ (e : ItemDevice). e.here) (same_Some d old found) ∙ was at
set_here (d ∷ ds) zero (suc i) new old h found was at = at
set_here (d ∷ ds) (suc k) zero new old h found was at = at
set_here (d ∷ ds) (suc k) (suc i) new old h found was at = set_here ds k i new old h found was at

pub set_makes : (w next : ItemWorld) (k : ℕ) (new old : ItemDevice) → slice_get w.devices k ≡ Some old → next.devices ≡ slice_set w.devices k new → ((h : ℕ) → new.here ≡ Some h → old.here ≡ Some h) → MakesNone w next
set_makes w next k new old found same was i h at = set_here w.devices k i new old h found (was h) (ap (λ ds. here_of (slice_get ds i)) (sym same) ∙ at)

-- ---- moves of a connection

served_devices : (position : ℕ) (o : Option ItemWire) (w : ItemWorld) → (items.served_by position o w).devices ≡ w.devices
served_devices position None w = refl
served_devices position (Some wire) w = by wire.up.items
  where
    by : (l : List ItemOut) → (items.served_first position l w).devices ≡ w.devices
    by [] = refl
    by (i ∷ l) = refl

told_devices : (position : ℕ) (o : Option ItemWire) (w : ItemWorld) → (items.reported_up position o w).devices ≡ w.devices
told_devices position None w = refl
told_devices position (Some wire) w = by (is_end_due wire.up)
  where
    by : (b : Bool) → (cond b (record w { server = gone_at (position + 1) (at_moment w.moment w.server); wires = changed_at position up_end_reported w.wires }) w).devices ≡ w.devices
    by true = refl
    by false = refl

pub up_makes : (position : ℕ) (w : ItemWorld) → MakesNone w (moved (Up position) w)
up_makes position w = same_devices w (moved (Up position) w) (served_devices position (slice_get w.wires position) w)

pub up_end_makes : (position : ℕ) (w : ItemWorld) → MakesNone w (moved (UpEnd position) w)
up_end_makes position w = same_devices w (moved (UpEnd position) w) (told_devices position (slice_get w.wires position) w)

pub tick_makes : (ms : ℕ) (w : ItemWorld) → MakesNone w (moved (Tick ms) w)
tick_makes ms w = same_devices w (moved (Tick ms) w) refl

after_here : (b : Bool) (o : Option ℕ) (h : ℕ) → here_after b o ≡ Some h → o ≡ Some h
after_here true o h e = absurd (let no : ⊥ = cc in no)
after_here false o h e = e

-- what an act on a device does, where this is its connection; else nothing
at_makes : (position : ℕ) (f : ItemWire → ItemDevice → ItemWorld → ItemWorld) (o : Option ItemWire) (w : ItemWorld) →
    ((wire : ItemWire) (d : ItemDevice) → slice_get w.devices wire.device ≡ Some d → MakesNone w (f wire d w)) → MakesNone w (items.at_wire position f o w)
at_makes position f None w each = λ i h at. at
at_makes position f (Some wire) w each = by (slice_get w.devices wire.device) refl
  where
    chosen : (b : Bool) (d : ItemDevice) → slice_get w.devices wire.device ≡ Some d → MakesNone w (cond b (f wire d w) w)
    chosen true d found = each wire d found
    chosen false d found = λ i h at. at

    by : (o : Option ItemDevice) → slice_get w.devices wire.device ≡ o → MakesNone w (items.at_device position f wire o w)
    by None found = λ i h at. at
    by (Some d) found = chosen (has_wire position d.here) d found

pub down_makes : (position : ℕ) (w : ItemWorld) → MakesNone w (moved (Down position) w)
down_makes position w = at_makes position (λ wire d. items.heard_first position wire.device wire.down.items d) (slice_get w.wires position) w each
  where
    each : (wire : ItemWire) (d : ItemDevice) → slice_get w.devices wire.device ≡ Some d → MakesNone w (items.heard_first position wire.device wire.down.items d w)
    each wire d found = by wire.down.items
      where
        by : (l : List ItemOut) → MakesNone w (items.heard_first position wire.device l d w)
        by [] = λ i h at. at
        by (i ∷ l) = set_makes w (items.heard_first position wire.device (i ∷ l) d w) wire.device _ d found refl (λ h e. after_here _ d.here h e)

pub down_end_makes : (position : ℕ) (w : ItemWorld) → MakesNone w (moved (DownEnd position) w)
down_end_makes position w = at_makes position (λ wire d. items.end_heard position wire.device (is_end_due wire.down) d) (slice_get w.wires position) w each
  where
    each : (wire : ItemWire) (d : ItemDevice) → slice_get w.devices wire.device ≡ Some d → MakesNone w (items.end_heard position wire.device (is_end_due wire.down) d w)
    each wire d found = by (is_end_due wire.down)
      where
        by : (b : Bool) → MakesNone w (items.end_heard position wire.device b d w)
        by false = λ i h at. at
        by true = set_makes w (items.end_heard position wire.device true d w) wire.device _ d found refl (λ h e. e)

-- ---- whom a Down reaches

-- nobody, and no client notes anything down; or the device whose connection it is
pub data Reaches (position : ℕ) (w : ItemWorld) : Type 0 where
  Nobody : moved (Down position) w ≡ w → ((i : ℕ) → item_notes (Down position) w i ≡ []) → Reaches position w
  Device : (wire : ItemWire) (d : ItemDevice) → slice_get w.wires position ≡ Some wire → slice_get w.devices wire.device ≡ Some d → d.here ≡ Some position → Reaches position w

pub reaches : (position : ℕ) (w : ItemWorld) → Reaches position w
reaches position w = by (slice_get w.wires position) refl
  where
    f : ItemWire → ItemDevice → ItemWorld → ItemWorld
    f wire d = items.heard_first position wire.device wire.down.items d

    silent : (wire : ItemWire) → slice_get w.wires position ≡ Some wire → (o : Option ItemDevice) → slice_get w.devices wire.device ≡ o → heard_at position wire.down.items o ≡ [] → (i : ℕ) → item_notes (Down position) w i ≡ []
    silent wire at o found none i = ap (heard_on position i (slice_get w.devices i)) at ∙ of (wire.device == i) refl
      where
        of : (b : Bool) → (wire.device == i) ≡ b → cond b (heard_at position wire.down.items (slice_get w.devices i)) [] ≡ []
        of true same = ap (λ k. heard_at position wire.down.items (slice_get w.devices k)) (sym (eqb-true wire.device i same)) ∙ ap (heard_at position wire.down.items) found ∙ none
        of false other = refl

    of_device : (wire : ItemWire) → slice_get w.wires position ≡ Some wire → (o : Option ItemDevice) → slice_get w.devices wire.device ≡ o → Reaches position w
    of_device wire at None found =
        Nobody (ap (λ o. items.at_wire position f o w) at ∙ ap (λ o. items.at_device position f wire o w) found) (silent wire at None found refl)
    of_device wire at (Some d) found = elim (cases_Bool (has_wire position d.here)) [
      | inl is ↦ Device wire d at found (here_is position d.here is)
      | inr not_is ↦ Nobody (ap (λ o. items.at_wire position f o w) at ∙ ap (λ o. items.at_device position f wire o w) found ∙ ap (λ b. cond b (f wire d w) w) not_is) (silent wire at (Some d) found (ap (λ b. cond b (heard_notes wire.down.items d) []) not_is))
    ]

    by : (o : Option ItemWire) → slice_get w.wires position ≡ o → Reaches position w
    by None at = Nobody (ap (λ o. items.at_wire position f o w) at) (λ i. ap (heard_on position i (slice_get w.devices i)) at)
    by (Some wire) at = of_device wire at (slice_get w.devices wire.device) refl
