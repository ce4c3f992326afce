-- An act by which no message is taken leaves the other devices, and drifts are such events.
use Rattle.std.proofs.Common.{◌≡◌, ◌<◌, ℕ, zero, suc, ◌+◌, ◌==◌, Bool, true, false, if◌then◌else◌, List, [], ◌∷◌, ◌++◌, Some, refl, sym, ap, ap₂, subst, ◌∙◌, append-nil, arith}
use Rattle.std.proofs.lemmas.Bool.Decides.{Decides-eqb}
use Rattle.std.proofs.lemmas.Option.{none-some, same_Some}
use Rattle.std.specs.List.{slice_get, slice_set}
use Rattle.sim_5_devices.specs.Labels.{Binds, Counts, Ends, SessionStep, SessionSteps, act_of, session_step_events, session_stepped, with_device}
use Rattle.sim_1_applications.specs.Devices.{AppWorld, Device, Sessions}
use Rattle.sim_1_applications.specs.Events.{Act, Around, Reaches, acted, around, becomes, each_from, own, taken_by}

-- ---- one of a list

same_at : (k j : ℕ) → (k + j == k + j) ≡ true
same_at k j = (Decides-eqb (k + j) (k + j)).1 refl

-- from a place on, where that is behind the one that changes
each_after : (i k : ℕ) (f : Device → Device) (ds : List Device) → i < k → each_from k (λ j d. if j == i then f d else d) ds ≡ ds
each_after i k f [] less = refl
each_after i k f (d ∷ ds) less = ap₂ (λ x xs. x ∷ xs) (by (k == i) refl) (each_after i (suc k) f ds (omega (arith, less)))
  where
    by : (b : Bool) → (k == i) ≡ b → (if b then f d else d) ≡ d
    by true same = absurd (let e = (Decides-eqb k i).0 same in omega (arith, less, e))
    by false other = refl

pub each_sets : (i k : ℕ) (f : Device → Device) (ds : List Device) (d : Device) → slice_get ds i ≡ Some d → each_from k (λ j x. if j == k + i then f x else x) ds ≡ slice_set ds i (f d)
each_sets i k f [] d there = absurd (none-some d there)
each_sets zero k f (x ∷ ds) d there =
    ap₂ (λ a b. a ∷ b) (rw ((Decides-eqb k (k + 0)).1 (omega arith)) (ap f (same_Some x d there)))
    (subst (λ n. each_from (suc k) (λ j y. if j == n then f y else y) ds ≡ ds) (let e : k ≡ k + 0 = omega arith in e) (each_after k (suc k) f ds (omega arith)))
each_sets (suc i) k f (x ∷ ds) d there =
    ap₂ (λ a b. a ∷ b) (by (k == k + suc i) refl)
    (subst (λ n. each_from (suc k) (λ j y. if j == n then f y else y) ds ≡ slice_set ds i (f d)) (let e : suc k + i ≡ k + suc i = omega arith in e) (each_sets i (suc k) f ds d there))
  where
    by : (b : Bool) → (k == k + suc i) ≡ b → (if b then f x else x) ≡ x
    by true same = absurd (let e = (Decides-eqb k (k + suc i)).0 same in omega (arith, e))
    by false other = refl

pub set_same : {T : Type 0} (l : List T) (i : ℕ) (x : T) → slice_get l i ≡ Some x → slice_set l i x ≡ l
set_same [] i x there = refl
set_same (y ∷ l) zero x there = ap (λ z. z ∷ l) (sym (same_Some y x there))
set_same (y ∷ l) (suc i) x there = ap (λ m. y ∷ m) (set_same l i x there)

pub set_twice : {T : Type 0} (l : List T) (i : ℕ) (x y : T) → slice_set (slice_set l i x) i y ≡ slice_set l i y
set_twice [] i x y = refl
set_twice (z ∷ l) zero x y = refl
set_twice (z ∷ l) (suc i) x y = ap (λ m. z ∷ m) (set_twice l i x y)

pub set_here : {T : Type 0} (l : List T) (i : ℕ) (x y : T) → slice_get l i ≡ Some x → slice_get (slice_set l i y) i ≡ Some y
set_here [] i x y there = absurd (none-some x there)
set_here (z ∷ l) zero x y there = refl
set_here (z ∷ l) (suc i) x y there = set_here l i x y there

-- ---- acts

module _ (w : AppWorld) (i : ℕ) (act : Act) (d : Device) (there : slice_get w.devices i ≡ Some d) where
  -- the device at the place does it
  each_own : each_from 0 (becomes w [] i act) w.devices ≡ slice_set w.devices i (own (around w d) act d)
  each_own =
      subst (λ n. each_from 0 (λ j x. if j == n then own (around w x) act x else x) w.devices ≡ slice_set w.devices i (own (around w d) act d)) (let e : 0 + i ≡ i = omega arith in e)
      (each_sets i 0 (λ x. own (around w x) act x) w.devices d there)

  pub acted_alone : taken_by w.accounts w.clock i d act ≡ [] → acted w i act d ≡ with_device i (own (around w d) act d) w
  acted_alone none =
      ap (λ new. record w { takes = w.takes ++ new; devices = each_from 0 (becomes w new i act) w.devices }) none
      ∙ ap₂ (λ takes devices. record w { takes = takes; devices = devices }) (append-nil w.takes) each_own

-- ---- drifts

session_step_done : (x : SessionStep) (a : Around) (d : Device) → own a (act_of x) d ≡ record d { sessions = session_stepped x d.sessions }
session_step_done Binds a d = refl
session_step_done Counts a d = refl
session_step_done Ends a d = refl

session_step_takes : (x : SessionStep) (accounts : List (List ℕ)) (moment i : ℕ) (d : Device) → taken_by accounts moment i d (act_of x) ≡ []
session_step_takes Binds accounts moment i d = refl
session_step_takes Counts accounts moment i d = refl
session_step_takes Ends accounts moment i d = refl

pub session_steps_reach : (xs : List SessionStep) (w : AppWorld) (i : ℕ) (d : Device) (last : Sessions) → slice_get w.devices i ≡ Some d → SessionSteps xs d.sessions last → Reaches (session_step_events i xs) w (with_device i (record d { sessions = last }) w)
session_steps_reach [] w i d last there same = ap (λ ds. record w { devices = ds }) (ap (λ s. slice_set w.devices i (record d { sessions = s })) same ∙ set_same w.devices i d there)
session_steps_reach (x ∷ xs) w i d last there by =
    let e : Device = record d { sessions = session_stepped x d.sessions } in
    let next = with_device i e w in
    let is : acted w i (act_of x) d ≡ next = acted_alone w i (act_of x) d there (session_step_takes x w.accounts w.clock i d) ∙ ap (λ y. with_device i y w) (session_step_done x (around w d) d) in (
      next,
      (d, there, by.0 d refl, sym is),
      subst (Reaches (session_step_events i xs) next) (ap (λ ds. record w { devices = ds }) (set_twice w.devices i e (record d { sessions = last })))
          (session_steps_reach xs next i e last (set_here w.devices i d e there) by.1),
    )
