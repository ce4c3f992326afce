-- A stamp's text, read by its places.
use Rattle.std.specs.Prelude.{ℕ, ◌+◌, ◌-◌, ◌*◌, Bool, ◌&&◌, ◌||◌, ◌==◌, nat_lt, nat_le, List, codes, length, drop, slice_index, Result, Ok, Err, if◌then◌else◌, ℤ, pos, negsuc, neg_ℤ}
use Rattle.std.specs.Char.{is_ascii_digit}
use Rattle.std.specs.List.{prefix_len}
use Rattle.std.specs.Str.{bytes_eq}
use Rattle.jiff_core.specs.Calendar.{days_from_civil, days_in_month}
use Rattle.im_stamp.specs.Stamps.{seconds_since}
use Rattle.im_stamp.specs.declared.fault.StampFault.{StampFault}
use Rattle.im_stamp.specs.declared.fault.StampFault.TheVariants.{BeforeEpoch, BadStamp}

abbrev pub digit_at : List ℕ → ℕ → ℕ
digit_at text i = slice_index text i - 48

unfoldable pub two_at : List ℕ → ℕ → ℕ
two_at text i = digit_at text i * 10 + digit_at text (i + 1)

-- two digits stand there
unfoldable pub is_pair : List ℕ → ℕ → Bool
is_pair text i = is_ascii_digit (slice_index text i) && is_ascii_digit (slice_index text (i + 1))

unfoldable pub year_of : List ℕ → ℕ
year_of text = two_at text 0 * 100 + two_at text 2

-- the calendar has this day
unfoldable pub is_day : ℕ → ℕ → ℕ → Bool
is_day year month day = nat_le year 9999 && nat_le 1 month && nat_le month 12 && nat_le 1 day && nat_le day (days_in_month (pos year) month)

unfoldable pub has_date : List ℕ → Bool
has_date text =
    is_pair text 0 && is_pair text 2 && (slice_index text 4 == 45) && is_pair text 5 && (slice_index text 7 == 45) && is_pair text 8
    && is_day (year_of text) (two_at text 5) (two_at text 8)

unfoldable pub has_clock : List ℕ → Bool
has_clock text =
    (slice_index text 10 == 84) && is_pair text 11 && (slice_index text 13 == 58) && is_pair text 14 && (slice_index text 16 == 58) && is_pair text 17
    && nat_lt (two_at text 11) 24 && nat_lt (two_at text 14) 60 && nat_lt (two_at text 17) 60

-- the digits from the front on
unfoldable pub digit_count : List ℕ → ℕ
digit_count text = prefix_len is_ascii_digit text

-- how long the fraction is that stands at the front; none where no digit follows the point
unfoldable pub fraction_len : List ℕ → ℕ
fraction_len text = if (slice_index text 0 == 46) && nat_lt 0 (digit_count (drop 1 text)) then digit_count (drop 1 text) + 1 else 0

unfoldable pub is_offset : List ℕ → Bool
is_offset text =
    (length text == 6) && ((slice_index text 0 == 43) || (slice_index text 0 == 45)) && is_pair text 1 && (slice_index text 3 == 58) && is_pair text 4
    && nat_lt (two_at text 1) 24 && nat_lt (two_at text 4) 60

unfoldable pub is_zone : List ℕ → Bool
is_zone text = bytes_eq text (codes "Z") || is_offset text

-- what stands behind the fraction
unfoldable pub zone_of : List ℕ → List ℕ
zone_of text = drop (fraction_len (drop 19 text)) (drop 19 text)

unfoldable pub is_stamp : List ℕ → Bool
is_stamp text = nat_le 20 (length text) && has_date text && has_clock text && is_zone (zone_of text)

-- the seconds that the zone is ahead of UTC
unfoldable pub offset_of : List ℕ → ℤ
offset_of zone =
    if bytes_eq zone (codes "Z") then pos 0
    else (if slice_index zone 0 == 43 then pos (two_at zone 1 * 3600 + two_at zone 4 * 60) else neg_ℤ (pos (two_at zone 1 * 3600 + two_at zone 4 * 60)))

unfoldable pub clock_of : List ℕ → ℕ
clock_of text = two_at text 11 * 3600 + two_at text 14 * 60 + two_at text 17

unfoldable pub seconds_of : List ℕ → ℤ
seconds_of text = seconds_since (days_from_civil (pos (year_of text)) (two_at text 5) (two_at text 8)) (clock_of text) (offset_of (zone_of text))

-- the digit there, where it is one of the first n behind the point
unfoldable pub counted_digit : List ℕ → ℕ → ℕ → ℕ
counted_digit text n i = if nat_lt i n then digit_at text i else 0

-- the milliseconds of a fraction: `n` is its length with the point
unfoldable pub millis_of : List ℕ → ℕ → ℕ
millis_of text n = counted_digit text n 1 * 100 + counted_digit text n 2 * 10 + counted_digit text n 3

-- whole seconds and milliseconds as a moment
unfoldable pub moment_at : ℤ → ℕ → Result ℕ StampFault
moment_at (pos s) ms = if nat_le (s * 1000 + ms) 253402207200000 then Ok (s * 1000 + ms) else Err BadStamp
moment_at (negsuc s) ms = Err BeforeEpoch

unfoldable pub moment_of : List ℕ → Result ℕ StampFault
moment_of text = if is_stamp text then moment_at (seconds_of text) (millis_of (drop 19 text) (fraction_len (drop 19 text))) else Err BadStamp
