-- An item that comes to a device is a move of that device alone.
use Rattle.std.proofs.Common.{◌≡◌, ℕ, zero, suc, Bool, true, false, List, [], ◌∷◌, Some, slice_get, refl, sym, ap, ◌∙◌, if◌then◌else◌}
use Rattle.std.proofs.lemmas.Bool.{eq-eqb}
use Rattle.std.proofs.lemmas.Option.{none-some, same_Some}
use Rattle.cl_handlers.specs.ClientSteps.{is_apart}
use Rattle.sim_3_images.proofs.WorldsWithin.{at_long}
use Rattle.sim_4_links_follow.proofs.Numbered.{set_elsewhere}
use Rattle.sim_4_links_follow.specs.Following.{IsNextItem}
use Rattle.sim_3_items.specs.Reading.{client_step_on, device_after, wire_after}
use Rattle.sim_3_items.specs.ItemMoves.{Down, at_device, at_wire, has_wire, heard, heard_first, left_where, moved}
use Rattle.sim_3_items.specs.ItemPipes.{ItemWire, handed_down, put_up}
use Rattle.sim_3_items.specs.ItemWorlds.{ItemDevice, ItemWorld}
use Rattle.sim_5_moves.proofs.ReplyEvents.{set_long}
use Rattle.sim_5_moves.specs.Moves.{IsOneDevice}
use Rattle.cmd_network.specs.Positions.{changed_at}
use Rattle.xml_writer.specs.Items.{ItemOut}

changed_from : (position : ℕ) (f : ItemWire → ItemWire) → ((x : ItemWire) → (f x).device ≡ x.device) → (l : List ItemWire) (j : ℕ) (wire : ItemWire) → slice_get (changed_at position f l) j ≡ Some wire
    → (old : ItemWire) × (slice_get l j ≡ Some old) × (wire.device ≡ old.device)
changed_from position f keeps [] j wire at = absurd (none-some wire at)
changed_from zero f keeps (x ∷ l) zero wire at = (x, refl, ap (λ (y : ItemWire). y.device) (sym (same_Some (f x) wire at)) ∙ keeps x)
changed_from zero f keeps (x ∷ l) (suc j) wire at = (wire, at, refl)
changed_from (suc position) f keeps (x ∷ l) zero wire at = (wire, at, refl)
changed_from (suc position) f keeps (x ∷ l) (suc j) wire at = changed_from position f keeps l j wire at

after_device : (b : Bool) (put : List ItemOut) (x : ItemWire) → (left_where b (put_up put (handed_down x))).device ≡ x.device
after_device true put x = refl
after_device false put x = refl

module _ (w : ItemWorld) (position : ℕ) (d : ItemDevice) (wire : ItemWire) (z : ItemOut) (n : IsNextItem position wire.device w d wire z) where
  abbrev pub heard_so : ItemWorld
  heard_so = heard position wire.device d (client_step_on z d) w

  abbrev hears : ItemWire → ItemDevice → ItemWorld → ItemWorld
  hears u e = heard_first position u.device u.down.items e

  pub moved_so : moved (Down position) w ≡ heard_so
  moved_so =
      ap (λ o. at_wire position hears o w) n.there
      ∙ ap (λ o. at_device position hears wire o w) n.has
      ∙ ap (λ o. if has_wire position o then hears wire d w else w) n.here
      ∙ ap (λ b. if b then hears wire d w else w) (eq-eqb position position refl)
      ∙ ap (λ items. heard_first position wire.device items d w) n.first

  pub hears_alone : IsOneDevice wire.device w heard_so
  hears_alone = record {
    server = refl;
    takes = refl;
    moment = refl;
    devices = set_long w.devices wire.device (device_after (client_step_on z d) d);
    beside = λ j other. set_elsewhere w.devices wire.device j (device_after (client_step_on z d) d) other;
    many = at_long position (wire_after (client_step_on z d)) w.wires;
    wires = λ j u at. changed_from position (wire_after (client_step_on z d)) (after_device (is_apart (client_step_on z d).client.phase) (client_step_on z d).out.put) w.wires j u at;
  }
