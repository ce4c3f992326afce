-- The stamp of a moment as a function: its date is found from 1970 on, year by year and then month by month.
use Rattle.std.specs.Prelude.{ℕ, zero, suc, ◌+◌, ◌-◌, ◌/◌, ◌%◌, nat_lt, min, pos, List, if◌then◌else◌}
use Rattle.jiff_core.specs.Calendar.{days_in_month, days_in_year}
use Rattle.im_stamp.specs.Stamps.{stamp_of}

pub record CivilDay : Type 0 where
  pub year : ℕ
  pub month : ℕ
  pub day : ℕ

-- the date so many days after the first of a month; at most n months follow it in its year
abbrev pub month_from : ℕ → ℕ → ℕ → ℕ → CivilDay
month_from zero year month days = record { year = year; month = month; day = days + 1 }
month_from (suc n) year month days =
    if nat_lt days (days_in_month (pos year) month) then record { year = year; month = month; day = days + 1 }
    else month_from n year (month + 1) (days - days_in_month (pos year) month)

-- the date so many days after the first of a year, of which at most n years follow
abbrev pub year_from : ℕ → ℕ → ℕ → CivilDay
year_from zero year days = month_from 11 year 1 days
year_from (suc n) year days = if nat_lt days (days_in_year (pos year)) then month_from 11 year 1 days else year_from n (year + 1) (days - days_in_year (pos year))

-- the date of a day number, up to the year 9999
unfoldable pub date_of : ℕ → CivilDay
date_of days = year_from 8029 1970 days

abbrev pub stamp_on : CivilDay → ℕ → List ℕ
stamp_on d clock = stamp_of d.year d.month d.day clock

-- the stamp of a moment in milliseconds since 1970; of one past the last that has a stamp, that of the last
abbrev pub stamp_at : ℕ → List ℕ
stamp_at ms = stamp_on (date_of (min ms 253402207200000 / 86400000)) (min ms 253402207200000 % 86400000)
