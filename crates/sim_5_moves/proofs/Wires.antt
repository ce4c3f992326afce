-- Connections are changed, and stay their devices'.
use Rattle.std.proofs.Common.{◌≡◌, ℕ, zero, suc, List, [], ◌∷◌, Option, Some, None, slice_get, refl, sym, ap, ◌∙◌}
use Rattle.std.proofs.lemmas.Option.{none-some, same_Some}
use Rattle.srv_state.specs.State.{Out, Put, Shut, Took}
use Rattle.sim_3_items.specs.ItemMoves.{all_emitted, emitted}
use Rattle.sim_3_items.specs.ItemPipes.{ItemWire, put_down, shut}
use Rattle.cmd_network.specs.Positions.{changed_at, changed_where, position_under}
use Rattle.xml_writer.specs.Items.{ItemOut}

abbrev pub AreOfSame : List ItemWire → List ItemWire → Type 0
AreOfSame old new = (position : ℕ) (wire : ItemWire) → slice_get new position ≡ Some wire → (was : ItemWire) × (slice_get old position ≡ Some was) × (wire.device ≡ was.device)

module _ (f : ItemWire → ItemWire) (same : (v : ItemWire) → (f v).device ≡ v.device) where
  pub at_same : (position : ℕ) (l : List ItemWire) → AreOfSame l (changed_at position f l)
  at_same position [] q wire at = absurd (none-some wire at)
  at_same zero (v ∷ l) zero wire at = (v, refl, ap (λ (u : ItemWire). u.device) (sym (same_Some (f v) wire at)) ∙ same v)
  at_same zero (v ∷ l) (suc q) wire at = (wire, at, refl)
  at_same (suc position) (v ∷ l) zero wire at = (wire, at, refl)
  at_same (suc position) (v ∷ l) (suc q) wire at = at_same position l q wire at

  where_same : (here : Option ℕ) (l : List ItemWire) → AreOfSame l (changed_where here f l)
  where_same None l q wire at = (wire, at, refl)
  where_same (Some position) l q wire at = at_same position l q wire at

pub same_twice : (a b c : List ItemWire) → AreOfSame a b → AreOfSame b c → AreOfSame a c
same_twice a b c first second q wire at =
    let two = second q wire at in
    let one = first q two.0 two.1 in
    (one.0, one.1, two.2 ∙ one.2)

-- ---- what the server puts out

pub emitted_same : (outs : List (Out ItemOut)) (l : List ItemWire) → AreOfSame l (all_emitted outs l)
emitted_same [] l = λ q wire at. (wire, at, refl)
emitted_same (Put k z ∷ outs) l =
    same_twice l (emitted (Put k z) l) (all_emitted outs (emitted (Put k z) l)) (where_same (put_down (z ∷ [])) (λ v. refl) (position_under k) l) (emitted_same outs (emitted (Put k z) l))
emitted_same (Shut k ∷ outs) l = same_twice l (emitted (Shut k) l) (all_emitted outs (emitted (Shut k) l)) (where_same shut (λ v. refl) (position_under k) l) (emitted_same outs (emitted (Shut k) l))
emitted_same (Took from to origin ∷ outs) l = emitted_same outs l
