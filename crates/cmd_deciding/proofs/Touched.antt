-- Which devices a move of a pass changes: none as bytes go to the server, and one at most as they go to a device.
use Rattle.std.proofs.Common.{◌≡◌, ◌≢◌, ℕ, Option, Some, None, refl, sym, ap, ◌∙◌}
use Rattle.std.specs.Option.{option_map}
use Rattle.std.specs.Prelude.{slice_get}
use Rattle.cmd_network.specs.Devices.{DeviceState}
use Rattle.cmd_network.specs.declared.wire.Wire.{Wire}
use Rattle.cmd_schedule.specs.declared.schedule.Count.{Count}
use Rattle.cmd_world.specs.Moves.{Down, Up, down_by, down_to, moved}
use Rattle.cmd_world.specs.Worlds.{ByteWorld}
use Rattle.cmd_world.specs.Lines.{pass_of}
use Rattle.cmd_world.proofs.UpDevices.{up_devices}
use Rattle.cmd_schedule.specs.declared.schedule.Count.TheVariants.{All}
use Rattle.cmd_resolving.specs.Expansion.{Watching, observed_from, watched, watched_move}
use Rattle.cmd_deciding.specs.Looks.{HasLooked, looked_once}
use Rattle.cmd_deciding.proofs.Changed.{set_elsewhere}
use Rattle.cmd_deciding.proofs.Looked.{no_look, one_look}

down_to_others : (position : ℕ) (count : Count) (wire : Wire) (o : Option DeviceState) (w : ByteWorld) (i : ℕ) → i ≢ wire.device → slice_get (down_to position count wire o w).devices i ≡ slice_get w.devices i
down_to_others position count wire None w i other = refl
down_to_others position count wire (Some d) w i other = set_elsewhere w.devices wire.device i _ other

-- ---- a move is looked at

-- the device of the connection looks, where there is such a connection
heard_by_wire : (position d : ℕ) (o : Option Wire) (s : Watching) → HasLooked s → Some d ≡ option_map (λ (w : Wire). w.device) o → slice_get s.world.wires position ≡ o →
    looked_once d (record s { world = moved (Down position All) s.world }) ≡ watched_move (Down position All) s
heard_by_wire position d None s looked is there = absurd (let none : Some d ≡ None = is in let bad : ⊥ = cc in bad)
heard_by_wire position d (Some wire) s looked is there =
    let some : Some d ≡ Some wire.device = is in
    let same : d ≡ wire.device = cc in
    let down : moved (Down position All) s.world ≡ down_to position All wire (slice_get s.world.devices wire.device) s.world = ap (λ o. down_by position All o s.world) there in
    one_look d s (moved (Down position All) s.world) looked
    (λ i other. ap (λ (w : ByteWorld). slice_get w.devices i) down ∙ down_to_others position All wire (slice_get s.world.devices wire.device) s.world i (λ is. other (is ∙ sym same)))

pub heard : (position d : ℕ) (s : Watching) → HasLooked s → Some d ≡ option_map (λ (w : Wire). w.device) (slice_get s.world.wires position) →
    looked_once d (record s { world = moved (Down position All) s.world }) ≡ watched_move (Down position All) s
heard position d s looked is = heard_by_wire position d (slice_get s.world.wires position) s looked is refl

unheard_by_wire : (position : ℕ) (o : Option Wire) (s : Watching) → HasLooked s → None ≡ option_map (λ (w : Wire). w.device) o → slice_get s.world.wires position ≡ o → s ≡ watched_move (Down position All) s
unheard_by_wire position (Some wire) s looked is there = absurd (let some : None ≡ Some wire.device = is in let bad : ⊥ = cc in bad)
unheard_by_wire position None s looked is there =
    let down : moved (Down position All) s.world ≡ s.world = ap (λ o. down_by position All o s.world) there in
    ap (λ w. record s { world = w }) (sym down) ∙ sym (no_look s (moved (Down position All) s.world) looked (ap (λ (w : ByteWorld). w.devices) down))

pub unheard : (position : ℕ) (s : Watching) → HasLooked s → None ≡ option_map (λ (w : Wire). w.device) (slice_get s.world.wires position) → s ≡ watched_move (Down position All) s
unheard position s looked is = unheard_by_wire position (slice_get s.world.wires position) s looked is refl

-- bytes that go to the server are no look
pub served_looked : (position : ℕ) (s : Watching) → HasLooked s → HasLooked (record s { world = moved (Up position All) s.world })
served_looked position s looked = ap (λ ds. observed_from 0 ds s.intents) (up_devices position All s.world) ∙ looked

pub passed : (position : ℕ) (s : Watching) → HasLooked s → watched_move (Down position All) (record s { world = moved (Up position All) s.world }) ≡ watched (pass_of position) s
passed position s looked = ap (watched_move (Down position All)) (sym (no_look s (moved (Up position All) s.world) looked (up_devices position All s.world)))
