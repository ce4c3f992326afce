-- Time stamps (XEP-0082, section 3.2; ISO 8601): the date, `T`, the clock, a fraction of a second that may be absent, and
-- the zone.
use Rattle.std.specs.Prelude.{◌≡◌, ℕ, ◌+◌, ◌-◌, ◌*◌, ◌/◌, ◌%◌, ◌<◌, true, List, [], ◌∷◌, ◌++◌, codes, ℤ, pos, neg_ℤ, ◌+ℤ◌, ◌-ℤ◌, ◌*ℤ◌}
use Rattle.std.specs.Char.{is_ascii_digit}
use Rattle.std.specs.List.{list_all}
use Rattle.jiff_core.specs.Calendar.{IsCivilDate, days_from_civil}

-- a number in two digits, and in three and four
abbrev pub two : ℕ → List ℕ
two n = (48 + n / 10) ∷ (48 + n % 10) ∷ []

abbrev pub three : ℕ → List ℕ
three n = (48 + n / 100) ∷ (48 + n / 10 % 10) ∷ (48 + n % 10) ∷ []

abbrev pub four : ℕ → List ℕ
four n = (48 + n / 1000) ∷ (48 + n / 100 % 10) ∷ (48 + n / 10 % 10) ∷ (48 + n % 10) ∷ []

-- `YYYY-MM-DD` and `hh:mm:ss`
abbrev pub date_text : ℕ → ℕ → ℕ → List ℕ
date_text year month day = four year ++ 45 ∷ (two month ++ 45 ∷ two day)

abbrev pub clock_text : ℕ → ℕ → ℕ → List ℕ
clock_text hour minute second = two hour ++ 58 ∷ (two minute ++ 58 ∷ two second)

-- a zone: UTC itself, or hours and minutes ahead of it or behind it
pub data Zone : Type 0 where
  utc : Zone
  ahead : ℕ → ℕ → Zone
  following : ℕ → ℕ → Zone

abbrev pub zone_text : Zone → List ℕ
zone_text utc = codes "Z"
zone_text (ahead hours minutes) = 43 ∷ (two hours ++ 58 ∷ two minutes)
zone_text (following hours minutes) = 45 ∷ (two hours ++ 58 ∷ two minutes)

-- the fraction, by its digits, of which there may be none
abbrev pub fraction_text : List ℕ → List ℕ
fraction_text [] = []
fraction_text (d ∷ ds) = 46 ∷ d ∷ ds

-- the parts of a stamp
pub record Parts : Type 0 where
  pub year : ℕ
  pub month : ℕ
  pub day : ℕ
  pub hour : ℕ
  pub minute : ℕ
  pub second : ℕ
  pub digits : List ℕ
  pub zone : Zone

abbrev pub IsZone : Zone → Type 0
IsZone utc = Unit {0}
IsZone (ahead hours minutes) = (hours < 24) × (minutes < 60)
IsZone (following hours minutes) = (hours < 24) × (minutes < 60)

-- A text is a stamp of these parts: the date exists, hours are at most 23, and minutes and seconds at most 59.
pub record IsStamp (text : List ℕ) (p : Parts) : Type 0 where
  pub early : p.year < 10000
  pub exists : IsCivilDate (pos p.year) p.month p.day
  pub hours : p.hour < 24
  pub minutes : p.minute < 60
  pub seconds : p.second < 60
  pub fraction : list_all is_ascii_digit p.digits ≡ true
  pub within : IsZone p.zone
  pub spelled : text ≡ date_text p.year p.month p.day ++ 84 ∷ (clock_text p.hour p.minute p.second ++ (fraction_text p.digits ++ zone_text p.zone))

-- how many seconds the zone's clock is ahead of UTC
abbrev pub seconds_ahead : Zone → ℤ
seconds_ahead utc = pos 0
seconds_ahead (ahead hours minutes) = pos (hours * 3600 + minutes * 60)
seconds_ahead (following hours minutes) = neg_ℤ (pos (hours * 3600 + minutes * 60))

-- the whole seconds since 1970 of a day number, a clock and a zone
abbrev pub seconds_since : ℤ → ℕ → ℤ → ℤ
seconds_since day clock offset = ((day *ℤ pos 86400) +ℤ pos clock) -ℤ offset

-- the first three digits of a fraction, in milliseconds
abbrev pub millis : List ℕ → ℕ
millis [] = 0
millis (a ∷ []) = (a - 48) * 100
millis (a ∷ b ∷ []) = (a - 48) * 100 + (b - 48) * 10
millis (a ∷ b ∷ c ∷ ds) = (a - 48) * 100 + (b - 48) * 10 + (c - 48)

-- the whole seconds since 1970 of a stamp
abbrev pub seconds : Parts → ℤ
seconds p = seconds_since (days_from_civil (pos p.year) p.month p.day) (p.hour * 3600 + p.minute * 60 + p.second) (seconds_ahead p.zone)

-- the milliseconds since 1970 of a stamp; what of its fraction is finer is cut off
abbrev pub moment : Parts → ℤ
moment p = (seconds p *ℤ pos 1000) +ℤ pos (millis p.digits)

-- the text that is written for a day of the calendar and the milliseconds of its clock
abbrev pub stamp_of : ℕ → ℕ → ℕ → ℕ → List ℕ
stamp_of year month day clock =
    date_text year month day ++ 84 ∷ (clock_text (clock / 3600000) (clock / 60000 % 60) (clock / 1000 % 60) ++ 46 ∷ (three (clock % 1000) ++ 90 ∷ []))

-- what is written for a moment, in milliseconds since 1970: the date whose day number is the moment's, and its clock
pub record IsWritten (ms : ℕ) (text : List ℕ) : Type 0 where
  pub year : ℕ
  pub month : ℕ
  pub day : ℕ
  pub early : year < 10000
  pub exists : IsCivilDate (pos year) month day
  pub number : days_from_civil (pos year) month day ≡ pos (ms / 86400000)
  pub spelled : text ≡ stamp_of year month day (ms % 86400000)
