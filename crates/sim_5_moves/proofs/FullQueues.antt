-- The queues that are full, as a list of places.
use Rattle.std.proofs.Common.{◌≡◌, ℕ, zero, suc, ◌+◌, ◌<◌, ◌==◌, Bool, true, false, List, [], ◌∷◌, Some, refl, sym, ap, subst, ◌∙◌, arith, if◌then◌else◌}
use Rattle.std.proofs.lemmas.Bool.{eq-eqb, ne_eqb}
use Rattle.std.proofs.lemmas.Option.{none-some, same_Some}
use Rattle.std.specs.List.{slice_get}
use Rattle.sim_1_applications.specs.Devices.{Device}
use Rattle.sim_1_applications.specs.Events.{is_number_among}

module _ (T : ℕ → Device → Type 0) (is_full : (j : ℕ) (e : Device) → T j e → Bool) where
  -- of devices from a place on
  pub record Full (k : ℕ) (ds : List Device) : Type 0 where
    pub positions : List ℕ
    pub above : (n : ℕ) → n < k → is_number_among n positions ≡ false
    pub each : (j : ℕ) (e : Device) → slice_get ds j ≡ Some e → (o : T (k + j) e) × (is_number_among (k + j) positions ≡ is_full (k + j) e o)

  -- one more in front
  abbrev with_first : Bool → ℕ → List ℕ → List ℕ
  with_first b k positions = if b then k ∷ positions else positions

  first_here : (b : Bool) (k : ℕ) (positions : List ℕ) → is_number_among k positions ≡ false → is_number_among k (with_first b k positions) ≡ b
  first_here true k positions none = (let same = eq-eqb k k refl in rw same refl)
  first_here false k positions none = none

  others_stay : (b : Bool) (k n : ℕ) (positions : List ℕ) → (n == k) ≡ false → is_number_among n (with_first b k positions) ≡ is_number_among n positions
  others_stay true k n positions other = rw other refl
  others_stay false k n positions other = refl

  pub full_from : (k : ℕ) (ds : List Device) → ((j : ℕ) (e : Device) → slice_get ds j ≡ Some e → T (k + j) e) → Full k ds
  full_from k [] each = record { positions = []; above = λ n below. refl; each = λ j e there. absurd (none-some e there) }
  full_from k (d ∷ ds) each =
      let o = each 0 d refl in
      let rest = full_from (suc k) ds (λ j e there. subst (λ n. T n e) (next j) (each (suc j) e there)) in
      let first = is_full (k + 0) d o in
      record {
        positions = with_first first k rest.positions;
        above = λ n below. others_stay first k n rest.positions (ne_eqb n k (λ same. omega (arith, below, same))) ∙ rest.above n (omega (arith, below));
        each = at o rest;
      }
    where
      next : (j : ℕ) → k + suc j ≡ suc k + j
      next j = omega arith

      at : (o : T (k + 0) d) (rest : Full (suc k) ds) (j : ℕ) (e : Device) → slice_get (d ∷ ds) j ≡ Some e →
          (p : T (k + j) e) × (is_number_among (k + j) (with_first (is_full (k + 0) d o) k rest.positions) ≡ is_full (k + j) e p)
      at o rest zero e there =
          subst (λ y. (p : T (k + 0) y) × (is_number_among (k + 0) (with_first (is_full (k + 0) d o) k rest.positions) ≡ is_full (k + 0) y p)) (same_Some d e there)
          (o, ap (λ n. is_number_among n (with_first (is_full (k + 0) d o) k rest.positions)) (let e0 : k + 0 ≡ k = omega arith in e0) ∙ first_here (is_full (k + 0) d o) k rest.positions (rest.above k (omega arith)))
      at o rest (suc j) e there =
          let p = rest.each j e there in
          subst (λ n. (q : T n e) × (is_number_among n (with_first (is_full (k + 0) d o) k rest.positions) ≡ is_full n e q)) (sym (next j))
          (p.0, others_stay (is_full (k + 0) d o) k (suc k + j) rest.positions (ne_eqb (suc k + j) k (λ same. omega (arith, same))) ∙ p.1)
