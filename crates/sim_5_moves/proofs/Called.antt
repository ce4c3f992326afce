-- The worlds that calls make: one device is another, and its connection.
use Rattle.std.proofs.Common.{◌≡◌, ℕ, zero, suc, List, [], ◌∷◌, Option, Some, None, length, slice_get, refl, sym, ap, ◌∙◌}
use Rattle.std.proofs.lemmas.Option.{none-some, same_Some}
use Rattle.std.specs.List.{slice_set}
use Rattle.sim_4_links_follow.proofs.Numbered.{set_elsewhere}
use Rattle.sim_3_items.specs.ItemPipes.{ItemWire}
use Rattle.sim_3_items.specs.ItemWorlds.{ItemDevice, ItemWorld}
use Rattle.sim_5_moves.proofs.ReplyEvents.{set_long}
use Rattle.sim_5_moves.specs.Moves.{IsOneDevice}
use Rattle.cmd_network.specs.Positions.{changed_at, changed_where}

-- connections are changed, and stay their devices'
abbrev pub AreOfSame : List ItemWire → List ItemWire → Type 0
AreOfSame old new = (position : ℕ) (wire : ItemWire) → slice_get new position ≡ Some wire → (was : ItemWire) × (slice_get old position ≡ Some was) × (wire.device ≡ was.device)

module _ (f : ItemWire → ItemWire) (same : (v : ItemWire) → (f v).device ≡ v.device) where
  at_same : (position : ℕ) (l : List ItemWire) → AreOfSame l (changed_at position f l)
  at_same position [] q wire at = absurd (none-some wire at)
  at_same zero (v ∷ l) zero wire at = (v, refl, ap (λ (u : ItemWire). u.device) (sym (same_Some (f v) wire at)) ∙ same v)
  at_same zero (v ∷ l) (suc q) wire at = (wire, at, refl)
  at_same (suc position) (v ∷ l) zero wire at = (wire, at, refl)
  at_same (suc position) (v ∷ l) (suc q) wire at = at_same position l q wire at

  pub where_same : (here : Option ℕ) (l : List ItemWire) → AreOfSame l (changed_where here f l)
  where_same None l q wire at = (wire, at, refl)
  where_same (Some position) l q wire at = at_same position l q wire at

pub same_twice : (a b c : List ItemWire) → AreOfSame a b → AreOfSame b c → AreOfSame a c
same_twice a b c first second q wire at =
    let two = second q wire at in
    let one = first q two.0 two.1 in
    (one.0, one.1, two.2 ∙ one.2)

pub one_called : (i : ℕ) (w : ItemWorld) (c : ItemDevice) (wires : List ItemWire) → length wires ≡ length w.wires → AreOfSame w.wires wires → IsOneDevice i w (record w { devices = slice_set w.devices i c; wires = wires })
one_called i w c wires many same = record {
  server = refl;
  takes = refl;
  moment = refl;
  devices = set_long w.devices i c;
  beside = λ j other. set_elsewhere w.devices i j c other;
  many = many;
  wires = same;
}
