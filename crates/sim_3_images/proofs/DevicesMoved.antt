-- No move changes a device's name or its account, and none but what its user asks for the lines that it refused.
use Rattle.std.proofs.Common.{◌≡◌, ℕ, zero, suc, ◌==◌, Bool, true, false, ◌&&◌, cond, List, [], ◌∷◌, Option, Some, None, map, refl, sym, ap, ◌∙◌}
use Rattle.std.proofs.lemmas.List.{map-set}
use Rattle.std.proofs.lemmas.Option.{none-some, same_Some, slice_get-map}
use Rattle.std.specs.Prelude.{slice_get, slice_set, take}
use Rattle.std.specs.Option.{option_map}
use Rattle.cl_core.specs.Feeds.{bytes_step}
use Rattle.cl_handlers.specs.Speech.{in_bytes}
use Rattle.cmd_network.specs.Devices.{DeviceState, after_step, closes_here, forgets_all, has_wire, hears, is_left, loses, silent, unless_left}
use Rattle.net_pipes.specs.Pipes.{is_end_due}
use Rattle.cmd_schedule.specs.declared.schedule.Count.{Count}
use Rattle.srv_core.specs.Events.{after_gone}
use Rattle.cmd_network.specs.Wires.{amount, down_end_reported, up_end_reported}
use Rattle.cmd_network.specs.declared.wire.Wire.{Wire}
use Rattle.cmd_world.specs.Moves as moves
use Rattle.cmd_world.specs.Moves.{Link, Move, closed_by, dialed_by, down_by, down_to, end_heard, forgot_by, heard, heard_by, heard_first, link_of, moved, reported_up, served, served_by}
use Rattle.cmd_world.specs.Worlds.{ByteWorld, number_at}

-- what is there is put there again
pub put_again : {A : Type 0} (l : List A) (i : ℕ) (a : A) → slice_get l i ≡ Some a → slice_set l i a ≡ l
put_again [] i a is = absurd (none-some a is)
put_again (x ∷ xs) zero a is = ap (λ y. y ∷ xs) (sym (same_Some x a is))
put_again (x ∷ xs) (suc i) a is = ap (λ l. x ∷ l) (put_again xs i a is)

-- what is seen of a device is its name, its account and the lines that it refused
abbrev pub SeesNoMore : {X : Type 0} → (DeviceState → X) → Type 0
SeesNoMore seen = (d e : DeviceState) → d.name ≡ e.name → d.account ≡ e.account → d.refused ≡ e.refused → seen d ≡ seen e

-- its user asks for nothing
abbrev pub IsUnasked : Move → Type 0
IsUnasked (moves.Say position line to text private) = ⊥
IsUnasked (moves.CatchUp position line most) = ⊥
IsUnasked _ = Unit {0}

module _ {X : Type 0} (seen : DeviceState → X) (no_more : SeesNoMore seen) where
  pub same_seen : (devices : List DeviceState) (position : ℕ) (d new : DeviceState) → slice_get devices position ≡ Some d → seen new ≡ seen d → map seen (slice_set devices position new) ≡ map seen devices
  same_seen devices position d new is same =
      map-set seen devices position new
      ∙ put_again (map seen devices) position (seen new) (slice_get-map seen devices position ∙ ap (option_map seen) is ∙ ap Some (sym same))

  -- ---- devices

  either : (b : Bool) (x y d : DeviceState) → seen x ≡ seen d → seen y ≡ seen d → seen (cond b x y) ≡ seen d
  either true x y d here there = here
  either false x y d here there = there

  unless_seen : (d : DeviceState) → seen (unless_left d) ≡ seen d
  unless_seen d = either (is_left d.client) (record d { here = None }) d d (no_more (record d { here = None }) d refl refl refl) refl

  hears_seen : (piece : List ℕ) (d : DeviceState) → seen (hears piece d).device ≡ seen d
  hears_seen piece d =
      let step = after_step (bytes_step in_bytes (silent d.client) piece) d in
      unless_seen step.device ∙ no_more step.device d refl refl refl

  -- ---- moves

  dialed : (position : ℕ) (o : Option DeviceState) (w : ByteWorld) → slice_get w.devices position ≡ o → map seen (dialed_by position o w).devices ≡ map seen w.devices
  dialed position None w is = refl
  dialed position (Some d) w is = same_seen w.devices position d _ is (no_more _ d refl refl refl)

  forgot : (position : ℕ) (o : Option DeviceState) (w : ByteWorld) → slice_get w.devices position ≡ o → map seen (forgot_by position o w).devices ≡ map seen w.devices
  forgot position None w is = refl
  forgot position (Some d) w is = same_seen w.devices position d (forgets_all d) is (no_more (forgets_all d) d refl refl refl)

  closed : (position : ℕ) (o : Option DeviceState) (w : ByteWorld) → slice_get w.devices position ≡ o → map seen (closed_by position o w).devices ≡ map seen w.devices
  closed position None w is = refl
  closed position (Some d) w is = same_seen w.devices position d (closes_here d).device is (no_more (closes_here d).device d refl refl refl)

  worlds_either : (b : Bool) (v u w : ByteWorld) → map seen v.devices ≡ map seen w.devices → map seen u.devices ≡ map seen w.devices → map seen (cond b v u).devices ≡ map seen w.devices
  worlds_either true v u w here there = here
  worlds_either false v u w here there = there

  was_served : (position : ℕ) (count : Count) (o : Option Wire) (w : ByteWorld) → map seen (served_by position count o w).devices ≡ map seen w.devices
  was_served position count None w = refl
  was_served position count (Some wire) w = worlds_either (amount count wire.up == 0) w (served position (amount count wire.up) wire w) w refl refl

  end_told : (position : ℕ) (o : Option Wire) (w : ByteWorld) → map seen (reported_up position o w).devices ≡ map seen w.devices
  end_told position None w = refl
  end_told position (Some wire) w = worlds_either (is_end_due wire.up) (record w { server = after_gone (number_at position) w.moment w.server; wires = slice_set w.wires position (up_end_reported wire) }) w w refl refl

  links_either : (b : Bool) (x y l : Link) → seen x.device ≡ seen l.device → seen y.device ≡ seen l.device → seen (cond b x y).device ≡ seen l.device
  links_either true x y l here there = here
  links_either false x y l here there = there

  heard_seen : (n : ℕ) (l : Link) → seen (heard_first n l).device ≡ seen l.device
  heard_seen n l = links_either (n == 0) l (heard n (hears (take n l.wire.down.bytes) l.device) l) l refl (hears_seen (take n l.wire.down.bytes) l.device)

  end_seen : (position : ℕ) (l : Link) → seen (end_heard position l).device ≡ seen l.device
  end_seen position l =
      links_either (has_wire position l.device.here && is_end_due l.wire.down) (link_of (down_end_reported l.wire) (loses l.device)) l l (no_more (loses l.device) l.device refl refl refl) refl

  all_heard_seen : (position : ℕ) (count : Count) (l : Link) → seen (heard_by position count l).device ≡ seen l.device
  all_heard_seen position count l =
      links_either (has_wire position l.device.here) (end_heard position (heard_first (amount count l.wire.down) l)) l l
      (end_seen position (heard_first (amount count l.wire.down) l) ∙ heard_seen (amount count l.wire.down) l) refl

  heard_to : (position : ℕ) (count : Count) (wire : Wire) (o : Option DeviceState) (w : ByteWorld) → slice_get w.devices wire.device ≡ o → map seen (down_to position count wire o w).devices ≡ map seen w.devices
  heard_to position count wire None w is = refl
  heard_to position count wire (Some d) w is = same_seen w.devices wire.device d (heard_by position count (link_of wire d)).device is (all_heard_seen position count (link_of wire d))

  heard_on : (position : ℕ) (count : Count) (o : Option Wire) (w : ByteWorld) → map seen (down_by position count o w).devices ≡ map seen w.devices
  heard_on position count None w = refl
  heard_on position count (Some wire) w = heard_to position count wire (slice_get w.devices wire.device) w refl

  pub seen_moved : (m : Move) (w : ByteWorld) → IsUnasked m → map seen (moved m w).devices ≡ map seen w.devices
  seen_moved (moves.Dial position) w unasked = dialed position (slice_get w.devices position) w refl
  seen_moved (moves.Forget position) w unasked = forgot position (slice_get w.devices position) w refl
  seen_moved (moves.Close position) w unasked = closed position (slice_get w.devices position) w refl
  seen_moved (moves.Say position line to text private) w unasked = absurd unasked
  seen_moved (moves.CatchUp position line most) w unasked = absurd unasked
  seen_moved (moves.Tick milliseconds) w unasked = refl
  seen_moved (moves.Up position count) w unasked =
      let v = served_by position count (slice_get w.wires position) w in
      end_told position (slice_get v.wires position) v ∙ was_served position count (slice_get w.wires position) w
  seen_moved (moves.Down position count) w unasked = heard_on position count (slice_get w.wires position) w
  seen_moved (moves.Cut position up down) w unasked = refl
