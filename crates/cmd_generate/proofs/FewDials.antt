-- Among so many drawn lines some are no dials, whatever the number is.
use Rattle.std.proofs.Common.{◌≡◌, ℕ, zero, suc, ◌+◌, ◌-◌, ◌*◌, ◌/◌, ◌%◌, ◌^◌, ◌≤◌, ◌<◌, List, [], ◌∷◌, refl, sym, ap, ◌∙◌, inl, inr, arith}
use Rattle.std.specs.Prelude.{◌⊎◌}
use Rattle.std.proofs.lemmas.Bool.{cases_lt}
use native.Mathlib.Nat.{add_comm, suc-mul, zero-mul}
use Rattle.cmd_generate.specs.Draws.{draw, next_state}
use Rattle.cmd_generate.specs.Generated.{dials_with, drawn_line, drawn_lines}
use Rattle.cmd_generate.proofs.Affine.{factor_of, step_of, walked_is}
use Rattle.cmd_generate.proofs.Dials.{all_dials, dials_in, dials_within, walked}

-- Of six states, these behind as many dials, not all can draw the kind 12: the sum of three and that of the other three
-- differ by half of 2^37, modulo 2^37, and so much less if each draws it.
not_all : (y a b c d e : ℕ)
    → a ≡ (11824400586840082769 * y + 8009712227366932036) % 2 ^ 64
    → b ≡ (9198084155556701945 * y + 12837271076218365606) % 2 ^ 64
    → c ≡ (7008495644197700401 * y + 9939501641656699484) % 2 ^ 64
    → d ≡ (12968409132383834473 * y + 11153199546900910226) % 2 ^ 64
    → e ≡ (3251713281030382097 * y + 2749237137734626996) % 2 ^ 64
    → (y / 2 ^ 33) % 16 ≡ 12 → (a / 2 ^ 33) % 16 ≡ 12 → (b / 2 ^ 33) % 16 ≡ 12 → (c / 2 ^ 33) % 16 ≡ 12 → (d / 2 ^ 33) % 16 ≡ 12 → (e / 2 ^ 33) % 16 ≡ 12 → ⊥
not_all y a b c d e ha hb hc hd he ky ka kb kc kd ke = omega arith

-- a number that isn't above 198
below : (x : ℕ) → (198 < x → ⊥) → suc x ≤ 199
below x none =
    elim (cases_lt 198 x) [
      | inl more ↦ absurd (none more)
      | inr few ↦ omega (arith, few)
    ]

above : (x : ℕ) → 198 < x → 199 ≤ x
above x more = omega arith

-- places among 199
at_0 : 0 < 199
at_0 = omega arith

at_42 : 42 < 199
at_42 = omega arith

at_113 : 113 < 199
at_113 = omega arith

at_130 : 130 < 199
at_130 = omega arith

at_147 : 147 < 199
at_147 = omega arith

at_198 : 198 < 199
at_198 = omega arith

-- 199 lines in a row aren't all dials
block : (i dials state : ℕ) → suc (dials_in (drawn_lines 199 i dials state)) ≤ 199
block i dials state =
    below (dials_in (drawn_lines 199 i dials state)) (λ more.
    let kind = all_dials 199 i dials state (above (dials_in (drawn_lines 199 i dials state)) more) in
    not_all (next_state state) (next_state (walked 42 state)) (next_state (walked 147 state)) (next_state (walked 198 state)) (next_state (walked 113 state)) (next_state (walked 130 state))
    (walked_is 42 state) (walked_is 147 state) (walked_is 198 state) (walked_is 113 state) (walked_is 130 state)
    (kind 0 at_0) (kind 42 at_42) (kind 147 at_147) (kind 198 at_198) (kind 113 at_113) (kind 130 at_130))

-- sums of counts
joined : (a b c d e f g : ℕ) → a ≡ b + c → c ≡ d + e → e ≡ f → g ≡ b + d → a ≡ g + f
joined a b c d e f g p q r s = omega arith

one_block : (a b c d e f k : ℕ) → a ≡ b + c → suc b ≤ f → c + k ≤ e → d ≡ f + e → a + suc k ≤ d
one_block a b c d e f k p q r s = omega arith

few_of : (a b c d e k : ℕ) → a ≡ b + c → b + k ≤ d → c ≤ e → a + k ≤ d + e
few_of a b c d e k p q r = omega arith

many : (a b size : ℕ) → a ≡ b → size ≤ 10000 → b + 12 ≤ 12 * 199 + (size - 2388) → size ≡ 12 * 199 + (size - 2388) → a ≤ 9988
many a b size p q r s = omega arith

within : (a size : ℕ) → size ≤ 9988 → a ≤ size → a ≤ 9988
within a size p q = omega arith

-- what so many lines leave
record Left : Type 0 where
  dials : ℕ
  state : ℕ

abbrev left_by : ℕ → ℕ → ℕ → ℕ → Left
left_by zero i dials state = record { dials = dials; state = state }
left_by (suc n) i dials state = let line = drawn_line i dials state in left_by n (i + 1) (dials_with line.value dials) line.state

-- how many of n lines are dials, and of m further lines
abbrev counted : ℕ → ℕ → ℕ → ℕ → ℕ
counted n i dials state = dials_in (drawn_lines n i dials state)

abbrev counted_behind : ℕ → ℕ → ℕ → Left → ℕ
counted_behind m i n left = dials_in (drawn_lines m (i + n) left.dials left.state)

split : (n m i dials state : ℕ) → counted (n + m) i dials state ≡ counted n i dials state + counted_behind m i n (left_by n i dials state)
split zero m i dials state =
    let here : counted (zero + m) i dials state ≡ counted m i dials state = ap (λ (k : ℕ). counted k i dials state) (omega arith) in
    let position : counted m i dials state ≡ counted m (i + zero) dials state = ap (λ (k : ℕ). counted m k dials state) (omega arith) in
    omega (arith, here, position)
split (suc n) m i dials state =
    let line = drawn_line i dials state in
    let left = left_by n (i + 1) (dials_with line.value dials) line.state in
    let rest : counted (n + m) (i + 1) (dials_with line.value dials) line.state ≡ counted n (i + 1) (dials_with line.value dials) line.state + counted_behind m (i + 1) n left = split n m (i + 1) (dials_with line.value dials) line.state in
    let more : suc n + m ≡ suc (n + m) = omega arith in
    let whole : counted (suc n + m) i dials state ≡ dials_with line.value 0 + counted (n + m) (i + 1) (dials_with line.value dials) line.state = ap (λ (k : ℕ). counted k i dials state) more in
    let first : counted (suc n) i dials state ≡ dials_with line.value 0 + counted n (i + 1) (dials_with line.value dials) line.state = refl in
    let position : i + 1 + n ≡ i + suc n = omega arith in
    let moved : counted_behind m (i + 1) n left ≡ counted_behind m i (suc n) left = ap (λ (k : ℕ). dials_in (drawn_lines m k left.dials left.state)) position in
    joined (counted (suc n + m) i dials state) (dials_with line.value 0) (counted (n + m) (i + 1) (dials_with line.value dials) line.state) (counted n (i + 1) (dials_with line.value dials) line.state)
    (counted_behind m (i + 1) n left) (counted_behind m i (suc n) left) (counted (suc n) i dials state) whole rest moved first

-- blocks of b lines, each with a line that is no dial
blocks : (b : ℕ) → ((i dials state : ℕ) → suc (counted b i dials state) ≤ b) → (k i dials state : ℕ) → counted (k * b) i dials state + k ≤ k * b
blocks b block zero i dials state =
    let none : counted (zero * b) i dials state ≡ 0 = ap (λ (n : ℕ). counted n i dials state) (zero-mul b) in
    omega (arith, none)
blocks b block (suc k) i dials state =
    let left = left_by b i dials state in
    let size : suc k * b ≡ b + k * b = suc-mul k b ∙ add_comm (k * b) b in
    let apart : counted (suc k * b) i dials state ≡ counted b i dials state + counted_behind (k * b) i b left = ap (λ (n : ℕ). counted n i dials state) size ∙ split b (k * b) i dials state in
    one_block (counted (suc k * b) i dials state) (counted b i dials state) (counted_behind (k * b) i b left) (suc k * b) (k * b) b k apart (block i dials state) (blocks b block k (i + b) left.dials left.state) size

-- of so many lines as k blocks have, and more, k are no dials
few : (b k : ℕ) → ((i dials state : ℕ) → suc (counted b i dials state) ≤ b) → (rest i dials state : ℕ) → counted (k * b + rest) i dials state + k ≤ k * b + rest
few b k block rest i dials state =
    let left = left_by (k * b) i dials state in
    few_of (counted (k * b + rest) i dials state) (counted (k * b) i dials state) (counted_behind rest i (k * b) left) (k * b) rest k
    (split (k * b) rest i dials state) (blocks b block k i dials state) (dials_within rest (i + k * b) left.dials left.state)

-- at least twelve of 10,000 lines are no dials
pub few_dials : (size i dials state : ℕ) → size ≤ 10000 → dials_in (drawn_lines size i dials state) ≤ 9988
few_dials size i dials state most =
    elim (cases_lt 9988 size) [
      | inl long ↦
          let size_is : size ≡ 12 * 199 + (size - 2388) = omega arith in
          many (counted size i dials state) (counted (12 * 199 + (size - 2388)) i dials state) size (ap (λ (n : ℕ). counted n i dials state) size_is) most (few 199 12 block (size - 2388) i dials state) size_is
      | inr short ↦ within (counted size i dials state) size short (dials_within size i dials state)
    ]
