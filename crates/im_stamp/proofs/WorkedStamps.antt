-- The definitions of stamps, evaluated at texts that were worked out beforehand.
use Rattle.std.proofs.Common.{◌≡◌, codes, Ok, Err, true, false, refl, arith, rules}
use Rattle.std.specs.Prelude.{pos, negsuc}
use Rattle.im_stamp.specs.Dates.{date_of, stamp_at}
use Rattle.im_stamp.specs.Stamps.{ahead, millis, seconds_ahead, seconds_since, IsWritten}
use Rattle.im_stamp.specs.StampReading.{has_date, is_day, is_pair, is_stamp, moment_at, moment_of, two_at, year_of}
use Rattle.im_stamp.specs.declared.fault.StampFault.TheVariants.{BadStamp, BeforeEpoch}
use Rattle.jiff_core.proofs.StandardFacts.{known_days}

-- stamp_text(0)
first_stamp : IsWritten 0 (codes "1970-01-01T00:00:00.000Z")
first_stamp = record { year = 1970; month = 1; day = 1; early = omega arith; exists = (search rules, search rules, search rules); number = known_days.0; spelled = refl }

-- the same, and 2000-02-29, as a function
first_moment : stamp_at 0 ≡ codes "1970-01-01T00:00:00.000Z"
unfolding date_of
first_moment = refl

leap_moment : stamp_at 951782400001 ≡ codes "2000-02-29T00:00:00.001Z"
unfolding date_of
leap_moment = refl

-- 1970-01-01T01:00:00+01:00 and 1970-01-01T00:00:00.0019Z
an_hour_ahead : seconds_since (pos 0) 3600 (seconds_ahead (ahead 1 0)) ≡ pos 0
an_hour_ahead = refl

three_digits : millis (codes "0019") ≡ 1
three_digits = refl

month_13 : moment_of (codes "1970-13-01T00:00:00Z") ≡ Err BadStamp
unfolding moment_of is_stamp has_date is_day is_pair two_at year_of
month_13 = refl

-- 29 February
leap : is_day 2000 2 29 ≡ true
unfolding is_day
leap = refl

no_leap : is_day 1900 2 29 ≡ false
unfolding is_day
no_leap = refl

second_before : moment_at (negsuc 0) 0 ≡ Err BeforeEpoch
unfolding moment_at
second_before = refl

last_one : moment_at (pos 253402207200) 0 ≡ Ok 253402207200000
unfolding moment_at
last_one = refl

past_it : moment_at (pos 253402207200) 1 ≡ Err BadStamp
unfolding moment_at
past_it = refl
