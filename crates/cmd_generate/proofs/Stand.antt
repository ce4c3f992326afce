-- Steps that may stand where they stand.
use Rattle.std.proofs.Common.{◌≡◌, ℕ, zero, suc, ◌+◌, ◌≤◌, ◌<◌, Bool, true, false, List, [], ◌∷◌, ◌++◌, length, refl, sym, ap, subst, ◌∙◌, arith, codes}
use Rattle.std.specs.Prelude.{IsTrue, ◌&&◌, nat_le, nat_lt}
use Rattle.std.specs.Fmt.{decimal}
use Rattle.std.proofs.lemmas.Bool.{and_from, le-leb, lt-ltb}
use Rattle.std.proofs.lemmas.Fmt.{decimal_digit}
use Rattle.base_io.specs.Names.{is_among}
use Rattle.cmd_generate.specs.Generated.{account_named, closing, device_named, lines_from, opening}
use Rattle.cmd_schedule.specs.WireGrammar.{AreWireLines, WireAbove, above_by, are_few, may_run, nothing_above}
use Rattle.cmd_schedule.specs.declared.schedule.WireStep.{WireStep}

-- each step may stand behind the steps before it, and is within the bounds
abbrev pub Stand : WireAbove → List WireStep → Type 0
Stand above [] = Unit {0}
Stand above (step ∷ steps) = IsTrue (may_run above step) × IsTrue (are_few above step) × Stand (above_by step above) steps

-- what stands above, with these steps
abbrev pub with_steps : WireAbove → List WireStep → WireAbove
with_steps above [] = above
with_steps above (step ∷ steps) = with_steps (above_by step above) steps

pub stand_append : (above : WireAbove) (xs ys : List WireStep) → Stand above xs → Stand (with_steps above xs) ys → Stand above (xs ++ ys)
stand_append above [] ys hx hy = hy
stand_append above (x ∷ xs) ys hx hy = (hx.0, hx.1, stand_append (above_by x above) xs ys hx.2 hy)

pub stand_lines : (above : WireAbove) (n : ℕ) (steps : List WireStep) → n + length steps ≤ 100001 → Stand above steps → AreWireLines above n (lines_from n steps)
stand_lines above n [] few stands = tt
stand_lines above n (step ∷ steps) few stands =
    (refl, omega arith, stands.0, stands.1, stand_lines (above_by step above) (n + 1) steps (omega arith) stands.2)

-- ---- names

-- the names' bytes
abbrev pub account_is : ℕ → List ℕ
account_is i = 97 ∷ (48 + i) ∷ []

abbrev pub device_is : ℕ → List ℕ
device_is i = 100 ∷ (48 + i) ∷ []

pub account_spelled : (i : ℕ) → i < 10 → account_named i ≡ account_is i
account_spelled i low = ap (λ (ds : List ℕ). 97 ∷ ds) (decimal_digit i low)

pub device_spelled : (i : ℕ) → i < 10 → device_named i ≡ device_is i
device_spelled i low = ap (λ (ds : List ℕ). 100 ∷ ds) (decimal_digit i low)

-- what stands above the drawn lines, with so many dials and times
abbrev pub at : ℕ → ℕ → WireAbove
at dials times = record {
  names = record {
    accounts = account_is 0 ∷ account_is 1 ∷ account_is 2 ∷ [];
    devices = device_is 0 ∷ device_is 1 ∷ device_is 2 ∷ device_is 3 ∷ device_is 4 ∷ device_is 5 ∷ [];
  };
  dials = dials;
  times = times;
}

-- ---- the opening and the closing

digit : (i : ℕ) → i < 10 → decimal i ≡ (48 + i) ∷ []
digit i low = decimal_digit i low

pub opening_stands : Stand nothing_above opening
opening_stands =
    rw (digit 0 (omega arith), digit 1 (omega arith), digit 2 (omega arith), digit 3 (omega arith), digit 4 (omega arith), digit 5 (omega arith))
    (refl, refl, (refl, refl, (refl, refl, (refl, refl, (refl, refl, (refl, refl, (refl, refl, (refl, refl, (refl, refl, (refl, refl, (refl, refl, (refl, refl, (refl, refl, (refl, refl, (refl, refl, (refl, refl, tt))))))))))))))))

pub opening_leaves : with_steps nothing_above opening ≡ at 6 12
opening_leaves = rw (digit 0 (omega arith), digit 1 (omega arith), digit 2 (omega arith), digit 3 (omega arith), digit 4 (omega arith), digit 5 (omega arith)) refl

pub closing_stands : (dials times : ℕ) → dials ≤ 9994 → times ≤ 99888 → Stand (at dials times) closing
closing_stands dials times few short =
    rw (digit 0 (omega arith), digit 1 (omega arith), digit 2 (omega arith), digit 3 (omega arith), digit 4 (omega arith), digit 5 (omega arith))
    (refl, lt-ltb dials 10000 (omega arith), (refl, lt-ltb (dials + 1) 10000 (omega arith), (refl, lt-ltb (dials + 1 + 1) 10000 (omega arith), (refl, lt-ltb (dials + 1 + 1 + 1) 10000 (omega arith), (refl, lt-ltb (dials + 1 + 1 + 1 + 1) 10000 (omega arith), (refl, lt-ltb (dials + 1 + 1 + 1 + 1 + 1) 10000 (omega arith), (refl, le-leb (times + 12) 100000 (omega arith), (refl, refl, (refl, refl, (refl, refl, (refl, refl, (refl, refl, (refl, refl, (refl, le-leb (times + 12 + 100) 100000 (omega arith), tt))))))))))))))
