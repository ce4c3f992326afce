-- The last number that pages reach.
use Rattle.std.proofs.Common.{◌≡◌, ℕ, zero, suc, ◌+◌, ◌-◌, ◌<◌, ◌≤◌, min, max, Bool, true, false, cond, List, [], ◌∷◌, ◌++◌, Option, Some, None, length, refl, sym, ap, ◌∙◌, subst, append_assoc, arith, inl, inr}
use Rattle.std.specs.List.{list_any, slice_get}
use Rattle.std.specs.Prelude.{◌||◌, is_some, drop, nat_le}
use Rattle.std.proofs.lemmas.Bool.{cases_Bool, leb-true}
use Rattle.sim_1_applications.specs.Answers.{following}
use Rattle.sim_1_applications.specs.Devices.{Tile}
use Rattle.sim_1_applications.specs.Kept.{AreTiles, end_of, ends_at, numbers_by, start_of}
use Rattle.sim_1_applications.proofs.Tiles.{tile_bounds}
use Rattle.law_intents.specs.Intents.{has_complete}

pub le_two : {a b c : ℕ} → a ≤ b → b ≤ c → a ≤ c
le_two first second = omega arith

pub ends_append : (keep n : ℕ) (ts us : List Tile) → ends_at keep n (ts ++ us) ≡ ends_at keep (ends_at keep n ts) us
ends_append keep n [] us = refl
ends_append keep n (t ∷ ts) us = ends_append keep (end_of keep n t) ts us

pub numbers_append : (keep n : ℕ) (ts us : List Tile) → numbers_by keep n (ts ++ us) ≡ numbers_by keep n ts ++ numbers_by keep (ends_at keep n ts) us
numbers_append keep n [] us = refl
numbers_append keep n (t ∷ ts) us =
    let first = following (start_of keep n t) (end_of keep n t - start_of keep n t) in
    ap (λ l. first ++ l) (numbers_append keep (end_of keep n t) ts us)
    ∙ sym (append_assoc first (numbers_by keep (end_of keep n t) ts) (numbers_by keep (ends_at keep (end_of keep n t) ts) us))

pub ends_rise : (keep n low high : ℕ) (ts : List Tile) → 1 ≤ keep → n ≤ low → AreTiles keep n low high ts → n ≤ ends_at keep n ts
ends_rise keep n low high [] some below kept = omega arith
ends_rise keep n low high (t ∷ ts) some below kept =
    let tile = kept.0 in
    let bounds = tile_bounds keep n t some tile.some (le_two below (le_two tile.asked tile.answered)) in
    le_two (le_two bounds.0 bounds.1) (ends_rise keep (end_of keep n t) t.last high ts some (le_two bounds.2 tile.over) kept.1)

pub ends_grow : (keep n low high : ℕ) (ts us : List Tile) → 1 ≤ keep → n ≤ low → AreTiles keep n low high (ts ++ us) → ends_at keep n ts ≤ ends_at keep n (ts ++ us)
ends_grow keep n low high [] us some below kept = ends_rise keep n low high us some below kept
ends_grow keep n low high (t ∷ ts) us some below kept =
    let tile = kept.0 in
    let bounds = tile_bounds keep n t some tile.some (le_two below (le_two tile.asked tile.answered)) in
    ends_grow keep (end_of keep n t) t.last high ts us some (le_two bounds.2 tile.over) kept.1

some_if : (c : Bool) (x : ℕ) → is_some (cond c (Some x) None) ≡ true → c ≡ true
some_if true x e = refl
some_if false x e = absurd (let bad : ⊥ = cc in bad)

reach : {a b c : ℕ} → a ≡ b → b ≤ c → a ≤ c
reach same low = omega arith

ended : (s m g : ℕ) → g - s ≤ m → g ≡ min (s + m) g
ended s m g few = omega arith

-- a complete page reaches what the archive had given
pub complete_ends : (keep n low high : ℕ) (ts : List Tile) → 1 ≤ keep → n ≤ low → AreTiles keep n low high ts → (k : ℕ) (t : Tile) → slice_get ts k ≡ Some t → is_some t.total ≡ true →
    t.given ≤ ends_at keep n ts
complete_ends keep n low high [] some below kept k t at whole = absurd (let bad : ⊥ = cc in bad)
complete_ends keep n low high (u ∷ ts) some below kept zero t at whole =
    let same : u ≡ t = cc in
    let tile = kept.0 in
    let bounds = tile_bounds keep n u some tile.some (le_two below (le_two tile.asked tile.answered)) in
    let is = some_if (nat_le (u.given - start_of keep n u) u.most) (min u.given keep) (sym (ap (λ o. is_some o) tile.total) ∙ ap (λ (v : Tile). is_some v.total) same ∙ whole) in
    let few = leb-true (u.given - start_of keep n u) u.most is in
    let mine : u.given ≤ ends_at keep n (u ∷ ts) =
    reach (ended (start_of keep n u) u.most u.given few) (ends_rise keep (end_of keep n u) u.last high ts some (le_two bounds.2 tile.over) kept.1) in
    subst (λ (v : Tile). v.given ≤ ends_at keep n (u ∷ ts)) same mine
complete_ends keep n low high (u ∷ ts) some below kept (suc k) t at whole =
    let tile = kept.0 in
    let bounds = tile_bounds keep n u some tile.some (le_two below (le_two tile.asked tile.answered)) in
    complete_ends keep (end_of keep n u) u.last high ts some (le_two bounds.2 tile.over) kept.1 k t at whole

-- a complete page after a mark
pub record Complete (mark : ℕ) (ts : List Tile) : Type 0 where
  pub index : ℕ
  pub tile : Tile
  pub at : slice_get ts index ≡ Some tile
  pub late : mark ≤ index
  pub whole : is_some tile.total ≡ true

pub complete_at : (mark : ℕ) (ts : List Tile) → has_complete (drop mark ts) ≡ true → Complete mark ts
complete_at zero [] any = absurd (let bad : ⊥ = cc in bad)
complete_at zero (t ∷ ts) any = elim (cases_Bool (is_some t.total)) [
  | inl is ↦ record { index = zero; tile = t; at = refl; late = omega arith; whole = is }
  | inr is ↦
      let rest : Complete zero ts = complete_at zero ts (sym (ap (λ b. b || has_complete ts) is) ∙ any) in
      record { index = suc rest.index; tile = rest.tile; at = rest.at; late = omega arith; whole = rest.whole }
]
complete_at (suc mark) [] any = absurd (let bad : ⊥ = cc in bad)
complete_at (suc mark) (t ∷ ts) any =
    let rest : Complete mark ts = complete_at mark ts any in
    record { index = suc rest.index; tile = rest.tile; at = rest.at; late = (let low = rest.late in omega arith); whole = rest.whole }

-- a page was answered no earlier than it was asked for
pub answered_at : (keep n low high : ℕ) (ts : List Tile) → AreTiles keep n low high ts → (k : ℕ) (t : Tile) → slice_get ts k ≡ Some t → t.began ≤ t.given
answered_at keep n low high [] kept k t at = absurd (let bad : ⊥ = cc in bad)
answered_at keep n low high (u ∷ ts) kept zero t at = (let same : u ≡ t = cc in subst (λ (v : Tile). v.began ≤ v.given) same kept.0.answered)
answered_at keep n low high (u ∷ ts) kept (suc k) t at = answered_at keep (end_of keep n u) u.last high ts kept.1 k t at
