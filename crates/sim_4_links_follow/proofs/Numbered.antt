-- Connections by their numbers, and devices by their places, where one of a list is changed, or one more comes.
use Rattle.std.proofs.Common.{◌≡◌, ◌≢◌, ℕ, zero, suc, ◌+◌, Bool, true, false, List, [], ◌∷◌, ◌++◌, Option, Some, None, length, nat_eq, slice_get, refl, sym, ap, subst, ◌∙◌, inl, inr, add-one, le_refl}
use Rattle.std.proofs.lemmas.Bool.{cases_eq}
use Rattle.std.specs.List.{slice_set}
use Rattle.std.specs.Option.{option_map}
use Rattle.std.proofs.lemmas.Option.{slice_get_past}
use Rattle.sim_3_items.specs.Pipes.{by_number, under}
use Rattle.sim_3_items.specs.Reading.{where_here}
use Rattle.sim_3_items.specs.Sent.{where_it}
use Rattle.sim_3_images.proofs.Lookups.{get_before, get_last}
use Rattle.sim_3_items.specs.ItemPipes.{ItemWire}
use Rattle.sim_2_links.proofs.Entries.{at_other, at_same, other_number, same_number}
use Rattle.sim_2_links.specs.Views.{Table, with_at}
use Rattle.sim_4_links_follow.proofs.Changes.{at_position, under_position}
use Rattle.sim_4_links_follow.proofs.Emitted.{changed_one, mapped_same, mapped_twice}
use Rattle.cmd_network.specs.Positions.{changed_at, changed_where}

-- ---- tables

pub at_itself : {A : Type 0} (k : ℕ) (a : A) (t : Table A) → t k ≡ Some a → (j : ℕ) → with_at k a t j ≡ t j
at_itself k a t there j = elim (cases_eq k j) [ inl same ↦ subst (λ n. with_at k a t n ≡ t n) same (at_same k a t ∙ sym there) | inr apart ↦ at_other k a t j apart ]

-- the connection that a device has is changed in a list as under its number
pub here_changed : (here : Option ℕ) (f : ItemWire → ItemWire) (wires : List ItemWire) (j : ℕ) → under j (changed_where here f wires) ≡ where_here here f (by_number wires) j
here_changed None f wires j = refl
here_changed (Some position) f wires j = ap (under j) (at_position position f wires) ∙ changed_one j (position + 1) f wires

-- it is changed to this
pub here_is : (position : ℕ) (f : ItemWire → ItemWire) (w : ItemWire) (wires : Table ItemWire) → wires (position + 1) ≡ Some w → (j : ℕ) → where_here (Some position) f wires j ≡ with_at (position + 1) (f w) wires j
here_is position f w wires there j =
    elim (cases_eq (position + 1) j) [
      | inl same ↦ subst (λ n. where_here (Some position) f wires n ≡ with_at (position + 1) (f w) wires n) same
          (ap (λ b. option_map (where_it b f) (wires (position + 1))) (same_number (position + 1)) ∙ ap (option_map f) there ∙ sym (at_same (position + 1) (f w) wires))
      | inr apart ↦ ap (λ b. option_map (where_it b f) (wires j)) (other_number (position + 1) j apart) ∙ mapped_same (wires j) ∙ sym (at_other (position + 1) (f w) wires j apart)
    ]

both_where : (b : Bool) (f g : ItemWire → ItemWire) (o : Option ItemWire) → option_map (λ w. where_it b f (where_it b g w)) o ≡ option_map (where_it b (λ w. f (g w))) o
both_where true f g o = refl
both_where false f g o = refl

-- one change after the other
pub here_twice : (here : Option ℕ) (f g : ItemWire → ItemWire) (wires : Table ItemWire) (j : ℕ) → where_here here f (where_here here g wires) j ≡ where_here here (λ w. f (g w)) wires j
here_twice None f g wires j = refl
here_twice (Some position) f g wires j = mapped_twice (where_it (nat_eq (position + 1) j) g) (where_it (nat_eq (position + 1) j) f) (wires j) ∙ both_where (nat_eq (position + 1) j) f g (wires j)

-- and where it is changed alike
pub here_again : (here : Option ℕ) (f : ItemWire → ItemWire) (wires same : Table ItemWire) (j : ℕ) → wires j ≡ same j → where_here here f wires j ≡ where_here here f same j
here_again None f wires same j alike = alike
here_again (Some position) f wires same j alike = ap (option_map (where_it (nat_eq (position + 1) j) f)) alike

-- the connection at a place is changed to this
pub position_is : (position : ℕ) (f : ItemWire → ItemWire) (w : ItemWire) (wires : List ItemWire) → slice_get wires position ≡ Some w → (j : ℕ) → under j (changed_at position f wires) ≡ with_at (position + 1) (f w) (by_number wires) j
position_is position f w wires there j = here_changed (Some position) f wires j ∙ here_is position f w (by_number wires) (under_position position wires ∙ there) j

-- ---- one more

pub under_none : {T : Type 0} (l : List T) → under (length l + 1) l ≡ None
under_none l = under_position (length l) l ∙ slice_get_past l (length l) (le_refl (length l))

under_before : {T : Type 0} (l : List T) (x : T) (k : ℕ) → length l + 1 ≢ k → under k (l ++ x ∷ []) ≡ under k l
under_before l x zero apart = refl
under_before l x (suc p) apart = get_before l x p (λ e. apart (rw add-one (ap suc (sym e))))

pub under_more : (l : List ItemWire) (x : ItemWire) (k : ℕ) → under k (l ++ x ∷ []) ≡ with_at (length l + 1) x (by_number l) k
under_more l x k =
    elim (cases_eq (length l + 1) k) [
      | inl same ↦ subst (λ n. under n (l ++ x ∷ []) ≡ with_at (length l + 1) x (by_number l) n) same (under_position (length l) (l ++ x ∷ []) ∙ get_last l x ∙ sym (at_same (length l + 1) x (by_number l)))
      | inr apart ↦ under_before l x k apart ∙ sym (at_other (length l + 1) x (by_number l) k apart)
    ]

-- ---- devices

pub set_elsewhere : {T : Type 0} (l : List T) (q p : ℕ) (y : T) → p ≢ q → slice_get (slice_set l q y) p ≡ slice_get l p
set_elsewhere [] zero p y apart = refl
set_elsewhere [] (suc q) p y apart = refl
set_elsewhere (z ∷ l) zero zero y apart = absurd (apart refl)
set_elsewhere (z ∷ l) zero (suc p) y apart = refl
set_elsewhere (z ∷ l) (suc q) zero y apart = refl
set_elsewhere (z ∷ l) (suc q) (suc p) y apart = set_elsewhere l q p y (λ e. apart (ap suc e))
