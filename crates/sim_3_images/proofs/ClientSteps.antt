-- The moves of turns, one by one.
use Rattle.std.proofs.Common.{◌≡◌, ◌<◌, ◌+◌, ◌*◌, ℕ, zero, suc, List, [], ◌∷◌, ◌++◌, length, Some, ap, refl, sym, ◌∙◌, arith}
use Rattle.std.proofs.lemmas.List.{length-append}
use native.Mathlib.Nat.{suc-mul, zero-mul}
use Rattle.std.specs.List.{slice_get}
use Rattle.cmd_schedule.specs.declared.schedule.Count.TheVariants.{All}
use Rattle.cmd_world.specs.Lines.{passes_of, round_from, rounds_of}
use Rattle.cmd_world.specs.Moves.{Down, Move, Up}

-- ---- a list behind another

following : {A : Type 0} (xs ys : List A) (i : ℕ) → slice_get (xs ++ ys) (length xs + i) ≡ slice_get ys i
following [] ys i = (let same : 0 + i ≡ i = omega arith in ap (slice_get ys) same)
following (x ∷ xs) ys i = (let next : suc (length xs) + i ≡ suc (length xs + i) = omega arith in ap (slice_get (x ∷ (xs ++ ys))) next ∙ following xs ys i)

before : {A : Type 0} (xs ys : List A) (i : ℕ) → i < length xs → slice_get (xs ++ ys) i ≡ slice_get xs i
before [] ys i within = absurd (omega (arith, within))
before (x ∷ xs) ys zero within = refl
before (x ∷ xs) ys (suc i) within = before xs ys i (omega (arith, within))

-- ---- passes

pub passes_count : (times position : ℕ) → length (passes_of times position) ≡ 2 * times
passes_count zero position = refl
passes_count (suc times) position = (let rest = passes_count times position in omega (arith, rest))

pub passes_up : (times position t : ℕ) → t < times → slice_get (passes_of times position) (2 * t) ≡ Some (Up position All)
passes_up zero position t within = absurd (omega (arith, within))
passes_up (suc times) position zero within = refl
passes_up (suc times) position (suc t) within =
    let next : 2 * suc t ≡ suc (suc (2 * t)) = omega arith in
    ap (slice_get (passes_of (suc times) position)) next ∙ passes_up times position t (omega (arith, within))

pub passes_down : (times position t : ℕ) → t < times → slice_get (passes_of times position) (2 * t + 1) ≡ Some (Down position All)
passes_down zero position t within = absurd (omega (arith, within))
passes_down (suc times) position zero within = refl
passes_down (suc times) position (suc t) within =
    let next : 2 * suc t + 1 ≡ suc (suc (2 * t + 1)) = omega arith in
    ap (slice_get (passes_of (suc times) position)) next ∙ passes_down times position t (omega (arith, within))

-- ---- rounds

round_count : (position count : ℕ) → length (round_from position count) ≡ 2 * count
round_count position zero = refl
round_count position (suc count) = (let rest = round_count (position + 1) count in omega (arith, rest))

round_up : (from count position : ℕ) → position < count → slice_get (round_from from count) (2 * position) ≡ Some (Up (from + position) All)
round_up from zero position within = absurd (omega (arith, within))
round_up from (suc count) zero within = (let same : from ≡ from + 0 = omega arith in ap (λ p. Some (Up p All)) same)
round_up from (suc count) (suc position) within =
    let next : 2 * suc position ≡ suc (suc (2 * position)) = omega arith in
    let same : from + 1 + position ≡ from + suc position = omega arith in
    ap (slice_get (round_from from (suc count))) next ∙ round_up (from + 1) count position (omega (arith, within)) ∙ ap (λ p. Some (Up p All)) same

round_down : (from count position : ℕ) → position < count → slice_get (round_from from count) (2 * position + 1) ≡ Some (Down (from + position) All)
round_down from zero position within = absurd (omega (arith, within))
round_down from (suc count) zero within = (let same : from ≡ from + 0 = omega arith in ap (λ p. Some (Down p All)) same)
round_down from (suc count) (suc position) within =
    let next : 2 * suc position + 1 ≡ suc (suc (2 * position + 1)) = omega arith in
    let same : from + 1 + position ≡ from + suc position = omega arith in
    ap (slice_get (round_from from (suc count))) next ∙ round_down (from + 1) count position (omega (arith, within)) ∙ ap (λ p. Some (Down p All)) same

turns_more : (times count : ℕ) → suc times * (2 * count) ≡ 2 * count + times * (2 * count)
turns_more times count = omega (arith, suc-mul times (2 * count))

pub rounds_count : (times count : ℕ) → length (rounds_of times count) ≡ times * (2 * count)
rounds_count zero count = sym (zero-mul (2 * count))
rounds_count (suc times) count =
    length-append (round_from 0 count) (rounds_of times count) ∙ ap (λ n. n + length (rounds_of times count)) (round_count 0 count)
    ∙ ap (λ n. 2 * count + n) (rounds_count times count) ∙ sym (turns_more times count)

-- the move at a place of the rounds, where it is that at a place of a round
at_client_step : (times count t i : ℕ) (m : Move) → t < times → i < 2 * count → slice_get (round_from 0 count) i ≡ Some m → slice_get (rounds_of times count) (t * (2 * count) + i) ≡ Some m
at_client_step zero count t i m within inside is = absurd (omega (arith, within))
at_client_step (suc times) count zero i m within inside is =
    let first : 0 * (2 * count) + i ≡ i = omega (arith, zero-mul (2 * count)) in
    let many = round_count 0 count in
    ap (slice_get (rounds_of (suc times) count)) first ∙ before (round_from 0 count) (rounds_of times count) i (omega (arith, many, inside)) ∙ is
at_client_step (suc times) count (suc t) i m within inside is =
    let many = round_count 0 count in
    let far : suc t * (2 * count) + i ≡ length (round_from 0 count) + (t * (2 * count) + i) =
    ap (λ n. n + i) (turns_more t count) ∙ add_assoc (2 * count) (t * (2 * count)) i ∙ ap (λ n. n + (t * (2 * count) + i)) (sym many) in
    ap (slice_get (rounds_of (suc times) count)) far ∙ following (round_from 0 count) (rounds_of times count) (t * (2 * count) + i)
    ∙ at_client_step times count t i m (omega (arith, within)) inside is
  where
    add_assoc : (a b c : ℕ) → a + b + c ≡ a + (b + c)
    add_assoc a b c = omega arith

pub rounds_up : (times count t position : ℕ) → t < times → position < count → slice_get (rounds_of times count) (t * (2 * count) + 2 * position) ≡ Some (Up position All)
rounds_up times count t position within there =
    let same : 0 + position ≡ position = omega arith in
    at_client_step times count t (2 * position) (Up position All) within (omega (arith, there)) (round_up 0 count position there ∙ ap (λ p. Some (Up p All)) same)

pub rounds_down : (times count t position : ℕ) → t < times → position < count → slice_get (rounds_of times count) (t * (2 * count) + (2 * position + 1)) ≡ Some (Down position All)
rounds_down times count t position within there =
    let same : 0 + position ≡ position = omega arith in
    at_client_step times count t (2 * position + 1) (Down position All) within (omega (arith, there)) (round_down 0 count position there ∙ ap (λ p. Some (Down p All)) same)
