-- A moment has one stamp that is written for it.
use Rattle.std.proofs.Common.{◌≡◌, ℕ, ◌%◌, List, sym, ◌∙◌, pos}
use Rattle.jiff_core.proofs.DateLemmas.{epoch_day_injective}
use Rattle.jiff_core.specs.Calendar.{IsCivilDate}
use Rattle.jiff_core.specs.declared.civil.date.Date.{Date}
use Rattle.im_stamp.specs.Stamps.{IsWritten, stamp_of}

abbrev date_at : (y m d : ℕ) → IsCivilDate (pos y) m d → Date
date_at y m d exists = record { year = pos y; month = m; day = d; year_in = exists.0; month_in = exists.1; day_in = exists.2 }

pub one_stamp : (ms : ℕ) (a b : List ℕ) → IsWritten ms a → IsWritten ms b → a ≡ b
one_stamp ms a b v w =
    let parts = epoch_day_injective (date_at v.year v.month v.day v.exists) (date_at w.year w.month w.day w.exists) (v.number ∙ sym w.number) in
    let year : v.year ≡ w.year = cc (parts.0) in
    v.spelled ∙ (λ i. stamp_of (year i) (parts.1 i) (parts.2 i) (ms % 86400000)) ∙ sym w.spelled
