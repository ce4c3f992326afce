-- Which drawn lines are dials.
use Rattle.std.proofs.Common.{◌≡◌, ℕ, zero, suc, ◌+◌, ◌-◌, ◌*◌, ◌/◌, ◌%◌, ◌≤◌, ◌<◌, Bool, true, false, cond, eqb, leb, List, [], ◌∷◌, ◌++◌, length, refl, sym, ap, subst, ◌∙◌, inl, inr, arith}
use Rattle.std.specs.Prelude.{◌&&◌, ◌⊎◌, nat_le}
use Rattle.std.proofs.lemmas.Bool.{cases_Bool, eqb-true}
use Rattle.base_lemmas.proofs.Conditions.{by_test}
use Rattle.cmd_generate.specs.Draws.{Drawn, draw, next_state}
use Rattle.cmd_generate.specs.Generated.{dials_with, drawn_catchup, drawn_cut, drawn_dial, drawn_down, drawn_forget, drawn_line, drawn_lines, drawn_of_kind, drawn_private, drawn_run, drawn_say, drawn_tick, drawn_up}
use Rattle.cmd_schedule.specs.declared.schedule.WireStep.{WireStep}
use Rattle.cmd_schedule.specs.declared.schedule.WireStep.TheVariants.{Common, Dial, Forget, Close, Up, Down, Cut, Pass, Run}

-- how many of the steps are dials
abbrev pub dials_in : List WireStep → ℕ
dials_in [] = 0
dials_in (step ∷ steps) = dials_with step 0 + dials_in steps

pub dials_more : (step : WireStep) (dials : ℕ) → dials_with step dials ≡ dials + dials_with step 0
dials_more (Dial device) dials = omega arith
dials_more (Common step) dials = omega arith
dials_more (Forget device) dials = omega arith
dials_more (Close device) dials = omega arith
dials_more (Up conn count) dials = omega arith
dials_more (Down conn count) dials = omega arith
dials_more (Cut conn up down) dials = omega arith
dials_more (Pass conn times) dials = omega arith
dials_more (Run times) dials = omega arith

pub dials_one : (step : WireStep) → dials_with step 0 ≤ 1
dials_one (Dial device) = omega arith
dials_one (Common step) = omega arith
dials_one (Forget device) = omega arith
dials_one (Close device) = omega arith
dials_one (Up conn count) = omega arith
dials_one (Down conn count) = omega arith
dials_one (Cut conn up down) = omega arith
dials_one (Pass conn times) = omega arith
dials_one (Run times) = omega arith

pub dials_within : (n i dials state : ℕ) → dials_in (drawn_lines n i dials state) ≤ n
dials_within zero i dials state = omega arith
dials_within (suc n) i dials state =
    let line = drawn_line i dials state in
    omega (arith, dials_one line.value, dials_within n (i + 1) (dials_with line.value dials) line.state)

-- a drawn line that is a dial is of kind 12, and a device was drawn for it
pub record IsDial (state further : ℕ) : Type 0 where
  pub kind : (draw 16 state).value ≡ 12
  pub state_is : further ≡ next_state (next_state state)

-- a line that is no dial
abbrev NoDial : Drawn WireStep → Type 0
NoDial line = dials_with line.value 0 ≡ 0

abbrev DialOrNot : ℕ → ℕ → Drawn WireStep → Type 0
DialOrNot kind state line = NoDial line ⊎ ((kind ≡ 12) × (line.state ≡ next_state state))

kinds : (kind i dials state : ℕ) → DialOrNot kind state (drawn_of_kind kind i dials state)
unfolding drawn_of_kind
kinds kind i dials state =
    by_test (nat_le kind 5) (λ e. rw e (inl refl)) (λ a.
    by_test (nat_le kind 7) (λ e. rw (a, e) (inl refl)) (λ b.
    by_test (eqb kind 8) (λ e. rw (a, b, e) (inl refl)) (λ c.
    by_test (eqb kind 9) (λ e. rw (a, b, c, e) (inl refl)) (λ d.
    by_test (eqb kind 10) (λ e. rw (a, b, c, d, e) (inl refl)) (λ f.
    by_test (eqb kind 11) (λ e. rw (a, b, c, d, f, e) (inl refl)) (λ g.
    by_test (eqb kind 12) (λ e. rw (a, b, c, d, f, g, e) (inr (eqb-true kind 12 e, refl))) (λ h.
    by_test (eqb kind 13) (λ e. rw (a, b, c, d, f, g, h, e) (inl refl)) (λ j.
    by_test (eqb kind 14) (λ e. rw (a, b, c, d, f, g, h, j, e) (inl refl)) (λ k.
    rw (a, b, c, d, f, g, h, j, k) (inl refl))))))))))

pub dial_or_not : (i dials state : ℕ) → NoDial (drawn_line i dials state) ⊎ IsDial state (drawn_line i dials state).state
unfolding drawn_line
dial_or_not i dials state =
    elim (kinds (draw 16 state).value i dials (draw 16 state).state) [
      | inl none ↦ inl none
      | inr is ↦ inr (record { kind = is.0; state_is = is.1 })
    ]

-- ---- lines that are all dials

-- the state behind so many dials
abbrev pub walked : ℕ → ℕ → ℕ
walked zero state = state
walked (suc n) state = walked n (next_state (next_state state))

step_dials : (n state further : ℕ) → IsDial state further → ((k : ℕ) → k < n → (draw 16 (walked k further)).value ≡ 12) → (j : ℕ) → j < suc n → (draw 16 (walked j state)).value ≡ 12
step_dials n state further is rest zero low = is.kind
step_dials n state further is rest (suc k) low = ap (λ (s : ℕ). (draw 16 (walked k s)).value) (sym is.state_is) ∙ rest k (omega arith)

-- so many lines from here on are dials, and so each is of kind 12
pub all_dials : (n i dials state : ℕ) → n ≤ dials_in (drawn_lines n i dials state) → (j : ℕ) → j < n → (draw 16 (walked j state)).value ≡ 12
all_dials zero i dials state all j within = absurd (omega arith)
all_dials (suc n) i dials state all j within =
    let line = drawn_line i dials state in
    let sum : suc n ≤ dials_with line.value 0 + dials_in (drawn_lines n (i + 1) (dials_with line.value dials) line.state) = all in
    let rest = dials_within n (i + 1) (dials_with line.value dials) line.state in
    let first = dials_one line.value in
    elim (dial_or_not i dials state) [
      | inl none ↦ absurd (omega (arith, sum, none, rest))
      | inr is ↦ step_dials n state line.state is (all_dials n (i + 1) (dials_with line.value dials) line.state (omega (arith, sum, first))) j within
    ]
