-- What the server puts out leaves what is on its way to it, or takes it away.
use Rattle.std.proofs.Common.{◌≡◌, ℕ, zero, suc, List, [], ◌∷◌, Some, refl, ap, subst, ◌∙◌, ◌⊎◌, inl, inr}
use Rattle.std.proofs.lemmas.Option.{none-some, same_Some}
use Rattle.std.specs.List.{slice_get}
use Rattle.srv_state.specs.State.{Out, Put, Shut, Took}
use Rattle.sim_3_items.specs.ItemMoves.{all_emitted, emitted}
use Rattle.sim_3_items.specs.ItemPipes.{ItemWire, put_down, shut}
use Rattle.cmd_network.specs.Positions.{changed_at, changed_under}
use Rattle.xml_writer.specs.Items.{ItemOut}

pub at_here : (f : ItemWire → ItemWire) (position : ℕ) (wires : List ItemWire) (w : ItemWire) → slice_get wires position ≡ Some w → slice_get (changed_at position f wires) position ≡ Some (f w)
at_here f position [] w at = absurd (none-some w at)
at_here f zero (u ∷ wires) w at = ap Some (ap f (same_Some u w at))
at_here f (suc position) (u ∷ wires) w at = at_here f position wires w at

-- of the device still, with the same on its way up, or nothing
pub record IsLeft (w : ItemWire) (wires : List ItemWire) (position : ℕ) : Type 0 where
  pub wire : ItemWire
  pub there : slice_get wires position ≡ Some wire
  pub device : wire.device ≡ w.device
  pub up : (wire.up.items ≡ w.up.items) ⊎ (wire.up.items ≡ [])

module _ (f : ItemWire → ItemWire) (device : (w : ItemWire) → (f w).device ≡ w.device) (up : (w : ItemWire) → ((f w).up.items ≡ w.up.items) ⊎ ((f w).up.items ≡ [])) where
  changed_left : (k position : ℕ) (wires : List ItemWire) (w : ItemWire) → slice_get wires position ≡ Some w → IsLeft w (changed_at k f wires) position
  changed_left k position [] w at = absurd (none-some w at)
  changed_left zero zero (u ∷ wires) w at = let same = same_Some u w at in record { wire = f u; there = refl; device = device u ∙ ap (λ (x : ItemWire). x.device) same; up = subst (λ (x : ItemWire). ((f u).up.items ≡ x.up.items) ⊎ ((f u).up.items ≡ [])) same (up u) }
  changed_left zero (suc position) (u ∷ wires) w at = record { wire = w; there = at; device = refl; up = inl refl }
  changed_left (suc k) zero (u ∷ wires) w at = record { wire = w; there = at; device = refl; up = inl refl }
  changed_left (suc k) (suc position) (u ∷ wires) w at = let l = changed_left k position wires w at in record { wire = l.wire; there = l.there; device = l.device; up = l.up }

  under_left : (k position : ℕ) (wires : List ItemWire) (w : ItemWire) → slice_get wires position ≡ Some w → IsLeft w (changed_under k f wires) position
  under_left zero position wires w at = record { wire = w; there = at; device = refl; up = inl refl }
  under_left (suc k) position wires w at = changed_left k position wires w at

then_left : (w : ItemWire) (wires more : List ItemWire) (position : ℕ) (l : IsLeft w wires position) → IsLeft l.wire more position → IsLeft w more position
then_left w wires more position l m = record { wire = m.wire; there = m.there; device = m.device ∙ l.device; up = go l.up m.up }
  where
    go : (l.wire.up.items ≡ w.up.items) ⊎ (l.wire.up.items ≡ []) → (m.wire.up.items ≡ l.wire.up.items) ⊎ (m.wire.up.items ≡ []) → (m.wire.up.items ≡ w.up.items) ⊎ (m.wire.up.items ≡ [])
    go one (inr none) = inr none
    go (inl same) (inl again) = inl (again ∙ same)
    go (inr none) (inl again) = inr (again ∙ none)

pub emitted_left : (outs : List (Out ItemOut)) (position : ℕ) (wires : List ItemWire) (w : ItemWire) → slice_get wires position ≡ Some w → IsLeft w (all_emitted outs wires) position
emitted_left [] position wires w at = record { wire = w; there = at; device = refl; up = inl refl }
emitted_left (Put k z ∷ outs) position wires w at =
    let l = under_left (put_down (z ∷ [])) (λ u. refl) (λ u. inl refl) k position wires w at in
    then_left w (emitted (Put k z) wires) (all_emitted outs (emitted (Put k z) wires)) position l (emitted_left outs position (emitted (Put k z) wires) l.wire l.there)
emitted_left (Shut k ∷ outs) position wires w at =
    let l = under_left shut (λ u. refl) (λ u. inr refl) k position wires w at in
    then_left w (emitted (Shut k) wires) (all_emitted outs (emitted (Shut k) wires)) position l (emitted_left outs position (emitted (Shut k) wires) l.wire l.there)
emitted_left (Took from to origin ∷ outs) position wires w at = emitted_left outs position wires w at
