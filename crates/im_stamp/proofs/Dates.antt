-- The date that is found for a day number is one of the calendar, and has that number.
use Rattle.std.proofs.Common.{◌≡◌, ℕ, zero, suc, ◌+◌, ◌-◌, ◌/◌, ◌<◌, ◌≤◌, Bool, true, false, if◌then◌else◌, nat_lt, min, List, refl, ◌∙◌, arith, rules, pos}
use Rattle.jiff_core.specs.Calendar.{IsCivilDate, day_count, days_from_civil, days_in_month, days_in_year}
use Rattle.jiff_core.proofs.CalendarLemmas.{day_count-day, day_count-end, day_count-epoch, day_count-last_of_year, day_count-next_month, day_count-next_year, days_from_civil-day_count}
use Rattle.jiff_core.proofs.SignedLemmas.{signed_arith}
use Rattle.im_stamp.proofs.StampOne.{one_stamp}
use Rattle.im_stamp.specs.Dates.{CivilDay, date_of, month_from, stamp_at, year_from}
use Rattle.im_stamp.specs.Stamps.{IsWritten}

-- the date is the day of this count, and its year is before 10000
record IsDay (count : ℕ) (d : CivilDay) : Type 0 where
  early : d.year < 10000
  exists : IsCivilDate (pos d.year) d.month d.day
  counted : day_count (pos d.year) d.month d.day ≡ count

day_found : (year month days : ℕ) → year < 10000 → 1 ≤ month → month ≤ 12 → days < days_in_month (pos year) month
    → IsDay (day_count (pos year) month 1 + days) (record { year = year; month = month; day = days + 1 })
day_found year month days early low high within = record {
  early = early;
  exists = (omega (arith, signed_arith), (low, high), (omega arith, omega arith));
  counted = omega (arith, day_count-day (pos year) month 1 (days + 1));
}

recounted : (a b : ℕ) (d : CivilDay) → a ≡ b → IsDay a d → IsDay b d
recounted a b d same found = record { early = found.early; exists = found.exists; counted = found.counted ∙ same }

chosen : (P : CivilDay → Type 0) (b : Bool) (x y : CivilDay) → (b ≡ true → P x) → (b ≡ false → P y) → P (if b then x else y)
chosen P true x y yes_x yes_y = yes_x refl
chosen P false x y yes_x yes_y = yes_y refl

december : (year days : ℕ) → day_count (pos year) 12 1 + days < day_count (pos year) 1 1 + days_in_year (pos year) → days < 31
december year days within = omega (arith, within, day_count-last_of_year (pos year), day_count-day (pos year) 12 1 31)

month_found : (n year month days : ℕ) → year < 10000 → 1 ≤ month → month + n ≡ 12
    → day_count (pos year) month 1 + days < day_count (pos year) 1 1 + days_in_year (pos year)
    → IsDay (day_count (pos year) month 1 + days) (month_from n year month days)
month_found zero year month days early low ahead within =
    let last : month ≡ 12 = omega arith in
    rw last (day_found year 12 days early (omega arith) (omega arith) (december year days (rw last at within)))
month_found (suc n) year month days early low ahead within =
    chosen (IsDay (day_count (pos year) month 1 + days)) (nat_lt days (days_in_month (pos year) month))
    (record { year = year; month = month; day = days + 1 }) (month_from n year (month + 1) (days - days_in_month (pos year) month))
    (λ t. day_found year month days early low (omega arith) (grind (arith, t)))
    (λ f.
    let past : days_in_month (pos year) month ≤ days = grind (arith, f) in
    let count : day_count (pos year) (month + 1) 1 + (days - days_in_month (pos year) month) ≡ day_count (pos year) month 1 + days = omega (arith, day_count-next_month (pos year) month low) in
    let found = month_found n year (month + 1) (days - days_in_month (pos year) month) early (omega arith) (omega arith) (omega arith) in
    recounted _ _ _ count found)

january : (year days : ℕ) → year < 10000 → days < days_in_year (pos year) → IsDay (day_count (pos year) 1 1 + days) (month_from 11 year 1 days)
january year days early within = month_found 11 year 1 days early (omega arith) refl (omega arith)

year_found : (n year days : ℕ) → year + n ≡ 9999 → day_count (pos year) 1 1 + days < day_count (pos 10000) 1 1
    → IsDay (day_count (pos year) 1 1 + days) (year_from n year days)
year_found zero year days ahead within =
    let last : year ≡ 9999 = omega arith in
    let full = day_count-next_year (pos 9999) (pos 10000) (search rules) refl in
    rw last (january 9999 days (omega arith) (omega (arith, full, rw last at within)))
year_found (suc n) year days ahead within =
    chosen (IsDay (day_count (pos year) 1 1 + days)) (nat_lt days (days_in_year (pos year)))
    (month_from 11 year 1 days) (year_from n (year + 1) (days - days_in_year (pos year)))
    (λ t. january year days (omega arith) (grind (arith, t)))
    (λ f.
    let past : days_in_year (pos year) ≤ days = grind (arith, f) in
    let full = day_count-next_year (pos year) (pos (year + 1)) (search rules) (search rules) in
    let count : day_count (pos (year + 1)) 1 1 + (days - days_in_year (pos year)) ≡ day_count (pos year) 1 1 + days = omega (arith, full) in
    let found = year_found n (year + 1) (days - days_in_year (pos year)) (omega arith) (omega arith) in
    recounted _ _ _ count found)

date_found : (days : ℕ) → days ≤ 2932896 → IsDay (4371953 + days) (date_of days)
unfolding date_of
date_found days low =
    recounted (day_count (pos 1970) 1 1 + days) (4371953 + days) (year_from 8029 1970 days) (omega (arith, day_count-epoch))
    (year_found 8029 1970 days refl (omega (arith, day_count-epoch, day_count-end)))

numbered : (y m d days : ℕ) → day_count (pos y) m d ≡ 4371953 + days → days_from_civil (pos y) m d ≡ pos days
numbered y m d days counted = omega (arith, signed_arith, days_from_civil-day_count (pos y) m d)

pub stamp_at_is_written : (ms : ℕ) → ms ≤ 253402207200000 → IsWritten ms (stamp_at ms)
stamp_at_is_written ms last =
    let same : min ms 253402207200000 ≡ ms = omega arith in
    let d = date_of (ms / 86400000) in
    let found = date_found (ms / 86400000) (omega arith) in
    rw same (record {
      year = d.year;
      month = d.month;
      day = d.day;
      early = found.early;
      exists = found.exists;
      number = numbered d.year d.month d.day (ms / 86400000) found.counted;
      spelled = refl;
    })

-- what is written for a moment is its stamp
pub is_stamp_at : (ms : ℕ) (text : List ℕ) → ms ≤ 253402207200000 → IsWritten ms text → text ≡ stamp_at ms
is_stamp_at ms text last written = one_stamp ms text (stamp_at ms) written (stamp_at_is_written ms last)
