-- Days from 1970 on.
use Rattle.std.proofs.Common.{◌≡◌, inl, arith, rules, refl, ℤ, pos, negsuc, unsigned_abs, ◌≤ℤ◌}
use Rattle.jiff_core.specs.Date.{epoch_day}
use Rattle.jiff_core.specs.declared.civil.date.Date.{Date}
use Rattle.jiff_core.proofs.DateLemmas.{epoch_day-lt}
use Rattle.jiff_core.proofs.StandardFacts.{known_days}
use Rattle.jiff_core.proofs.SignedLemmas.{signed_arith}
use Rattle.std.proofs.lemmas.Int.{by_lt_z}

first_day : Date
first_day = record { year = pos 1970; month = 1; day = 1; year_in = search rules; month_in = search rules; day_in = search rules }

pub year_from_1970 : (d : Date) → pos 0 ≤ℤ epoch_day d → pos 1970 ≤ℤ d.year
unfolding first_day
year_from_1970 d from =
    by_lt_z d.year (pos 1970)
    (λ lt. absurd (omega (arith, signed_arith, epoch_day-lt d first_day (inl lt), known_days.0)))
    (λ ge. ge)

year_positive : (y : ℤ) → pos 1970 ≤ℤ y → pos (unsigned_abs y) ≡ y
year_positive (pos n) from = refl
year_positive (negsuc n) from = absurd (omega (arith, signed_arith))

pub year_is : (d : Date) → pos 0 ≤ℤ epoch_day d → pos (unsigned_abs d.year) ≡ d.year
year_is d from = year_positive d.year (year_from_1970 d from)
