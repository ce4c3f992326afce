-- Each stamp is read as its moment.
use Rattle.std.proofs.Common.{◌≡◌, ℕ, suc, ◌+◌, ◌/◌, ◌%◌, ◌<◌, ◌≤◌, Bool, true, false, ◌&&◌, ◌||◌, ◌==◌, nat_lt, nat_le, List, [], ◌∷◌, ◌++◌, length, drop, refl, arith, pos}
use Rattle.std.proofs.lemmas.Bool.Decides.{nat_tests}
use Rattle.std.specs.Char.{is_ascii_digit}
use Rattle.std.specs.List.{list_all, prefix_len}
use Rattle.std.specs.Prelude.{slice_index}
use Rattle.jiff_core.specs.Calendar.{IsCivilDate, days_in_month}
use Rattle.im_stamp.specs.Stamps.{Zone, utc, ahead, following, IsZone, clock_text, date_text, fraction_text, millis, seconds_ahead, two, zone_text}
use Rattle.im_stamp.specs.StampReading.{counted_digit, digit_count, fraction_len, has_clock, has_date, is_day, is_offset, is_pair, is_zone, millis_of, offset_of, two_at, year_of, zone_of}

pub digit_is : (d : ℕ) → d < 10 → is_ascii_digit (48 + d) ≡ true
digit_is d low = grind (arith, nat_tests)

pub pair_back : (n : ℕ) (text : List ℕ) (i : ℕ) → n < 100 → slice_index text i ≡ 48 + n / 10 → slice_index text (i + 1) ≡ 48 + n % 10 → is_pair text i ≡ true
unfolding is_pair
pair_back n text i low a b = rw (a, b, digit_is (n / 10) (omega arith), digit_is (n % 10) (omega arith)) refl

pub two_back : (n : ℕ) (text : List ℕ) (i : ℕ) → n < 100 → slice_index text i ≡ 48 + n / 10 → slice_index text (i + 1) ≡ 48 + n % 10 → two_at text i ≡ n
unfolding two_at
two_back n text i low a b = rw (a, b) (omega arith)

day_true : (y m d n : ℕ) → y ≤ 9999 → 1 ≤ m → m ≤ 12 → 1 ≤ d → d ≤ n → (nat_le y 9999 && nat_le 1 m && nat_le m 12 && nat_le 1 d && nat_le d n) ≡ true
day_true y m d n a b c e f = grind (arith, nat_tests)

pub day_back : (y m d : ℕ) → y < 10000 → IsCivilDate (pos y) m d → is_day y m d ≡ true
unfolding is_day
day_back y m d early exists = day_true y m d (days_in_month (pos y) m) (omega arith) exists.1.0 exists.1.1 exists.2.0 exists.2.1

-- a stamp's date and clock, with what stands behind them
abbrev pub whole : ℕ → ℕ → ℕ → ℕ → ℕ → ℕ → List ℕ → List ℕ
whole y mo d h mi s rest = date_text y mo d ++ 84 ∷ (clock_text h mi s ++ rest)

pub year_back : (y mo d h mi s : ℕ) (rest : List ℕ) → y < 10000 → year_of (whole y mo d h mi s rest) ≡ y
unfolding year_of
year_back y mo d h mi s rest early =
    let t = whole y mo d h mi s rest in
    let a : 48 + y / 1000 ≡ 48 + y / 100 / 10 = omega arith in
    let c : 48 + y / 10 % 10 ≡ 48 + y % 100 / 10 = omega arith in
    let e : 48 + y % 10 ≡ 48 + y % 100 % 10 = omega arith in
    let front : two_at t 0 ≡ y / 100 = two_back (y / 100) t 0 (omega arith) a refl in
    let back : two_at t 2 ≡ y % 100 = two_back (y % 100) t 2 (omega arith) c e in
    rw (front, back) (omega arith)

pub month_back : (y mo d h mi s : ℕ) (rest : List ℕ) → mo < 100 → two_at (whole y mo d h mi s rest) 5 ≡ mo
month_back y mo d h mi s rest low = two_back mo (whole y mo d h mi s rest) 5 low refl refl

pub month_day_back : (y mo d h mi s : ℕ) (rest : List ℕ) → d < 100 → two_at (whole y mo d h mi s rest) 8 ≡ d
month_day_back y mo d h mi s rest low = two_back d (whole y mo d h mi s rest) 8 low refl refl

pub date_back : (y mo d h mi s : ℕ) (rest : List ℕ) → y < 10000 → mo < 100 → d < 100 → IsCivilDate (pos y) mo d → has_date (whole y mo d h mi s rest) ≡ true
unfolding has_date
date_back y mo d h mi s rest early m_low d_low exists =
    let t = whole y mo d h mi s rest in
    let a : 48 + y / 1000 ≡ 48 + y / 100 / 10 = omega arith in
    let c : 48 + y / 10 % 10 ≡ 48 + y % 100 / 10 = omega arith in
    let e : 48 + y % 10 ≡ 48 + y % 100 % 10 = omega arith in
    let p0 : is_pair t 0 ≡ true = pair_back (y / 100) t 0 (omega arith) a refl in
    let p2 : is_pair t 2 ≡ true = pair_back (y % 100) t 2 (omega arith) c e in
    let p5 : is_pair t 5 ≡ true = pair_back mo t 5 m_low refl refl in
    let p8 : is_pair t 8 ≡ true = pair_back d t 8 d_low refl refl in
    let day : is_day (year_of t) (two_at t 5) (two_at t 8) ≡ true =
    rw (year_back y mo d h mi s rest early, month_back y mo d h mi s rest m_low, month_day_back y mo d h mi s rest d_low) (day_back y mo d early exists) in
    rw (p0, p2, p5, p8, day) refl

below : (n m : ℕ) → n < m → nat_lt n m ≡ true
below n m low = grind (arith, nat_tests)

pub hour_back : (y mo d h mi s : ℕ) (rest : List ℕ) → h < 24 → two_at (whole y mo d h mi s rest) 11 ≡ h
hour_back y mo d h mi s rest low = two_back h (whole y mo d h mi s rest) 11 (omega arith) refl refl

pub minute_back : (y mo d h mi s : ℕ) (rest : List ℕ) → mi < 60 → two_at (whole y mo d h mi s rest) 14 ≡ mi
minute_back y mo d h mi s rest low = two_back mi (whole y mo d h mi s rest) 14 (omega arith) refl refl

pub second_back : (y mo d h mi s : ℕ) (rest : List ℕ) → s < 60 → two_at (whole y mo d h mi s rest) 17 ≡ s
second_back y mo d h mi s rest low = two_back s (whole y mo d h mi s rest) 17 (omega arith) refl refl

pub clock_back : (y mo d h mi s : ℕ) (rest : List ℕ) → h < 24 → mi < 60 → s < 60 → has_clock (whole y mo d h mi s rest) ≡ true
unfolding has_clock
clock_back y mo d h mi s rest hs ms ss =
    let t = whole y mo d h mi s rest in
    let p11 : is_pair t 11 ≡ true = pair_back h t 11 (omega arith) refl refl in
    let p14 : is_pair t 14 ≡ true = pair_back mi t 14 (omega arith) refl refl in
    let p17 : is_pair t 17 ≡ true = pair_back s t 17 (omega arith) refl refl in
    rw (p11, p14, p17, hour_back y mo d h mi s rest hs, minute_back y mo d h mi s rest ms, second_back y mo d h mi s rest ss, below h 24 hs, below mi 60 ms, below s 60 ss) refl

-- the zone
offset_back : (x h m : ℕ) → ((x == 43) || (x == 45)) ≡ true → h < 24 → m < 60 → is_offset (x ∷ (two h ++ 58 ∷ two m)) ≡ true
unfolding is_offset
offset_back x h m sign hs ms =
    let t = x ∷ (two h ++ 58 ∷ two m) in
    let p1 : is_pair t 1 ≡ true = pair_back h t 1 (omega arith) refl refl in
    let p4 : is_pair t 4 ≡ true = pair_back m t 4 (omega arith) refl refl in
    let a : two_at t 1 ≡ h = two_back h t 1 (omega arith) refl refl in
    let b : two_at t 4 ≡ m = two_back m t 4 (omega arith) refl refl in
    rw (sign, p1, p4, a, b, below h 24 hs, below m 60 ms) refl

pub zone_back : (z : Zone) → IsZone z → is_zone (zone_text z) ≡ true
unfolding is_zone
zone_back utc within = refl
zone_back (ahead h m) within = offset_back 43 h m refl within.0 within.1
zone_back (following h m) within = offset_back 45 h m refl within.0 within.1

pub seconds_back : (z : Zone) → IsZone z → offset_of (zone_text z) ≡ seconds_ahead z
unfolding offset_of
seconds_back utc within = refl
seconds_back (ahead h m) within =
    let t = 43 ∷ (two h ++ 58 ∷ two m) in
    let a : two_at t 1 ≡ h = two_back h t 1 (omega (arith, within.0)) refl refl in
    let b : two_at t 4 ≡ m = two_back m t 4 (omega (arith, within.1)) refl refl in
    rw (a, b) refl
seconds_back (following h m) within =
    let t = 45 ∷ (two h ++ 58 ∷ two m) in
    let a : two_at t 1 ≡ h = two_back h t 1 (omega (arith, within.0)) refl refl in
    let b : two_at t 4 ≡ m = two_back m t 4 (omega (arith, within.1)) refl refl in
    rw (a, b) refl

-- the fraction
pub and_parts : (a b : Bool) → (a && b) ≡ true → (a ≡ true) × (b ≡ true)
and_parts true b h = (refl, h)
and_parts false b h = cc h

no_digits : (z : Zone) → prefix_len is_ascii_digit (zone_text z) ≡ 0
no_digits utc = refl
no_digits (ahead h m) = refl
no_digits (following h m) = refl

count_back : (ds z : List ℕ) → list_all is_ascii_digit ds ≡ true → prefix_len is_ascii_digit z ≡ 0 → prefix_len is_ascii_digit (ds ++ z) ≡ length ds
count_back [] z all none = none
count_back (d ∷ ds) z all none =
    let parts = and_parts (is_ascii_digit d) (list_all is_ascii_digit ds) all in
    rw (parts.0, count_back ds z parts.1 none) (omega arith)

some_digits : (n : ℕ) → nat_lt 0 (suc n) ≡ true
some_digits n = grind (arith, nat_tests)

pub fraction_back : (ds : List ℕ) (z : Zone) → list_all is_ascii_digit ds ≡ true → fraction_len (fraction_text ds ++ zone_text z) ≡ length (fraction_text ds)
unfolding fraction_len digit_count
fraction_back [] utc all = refl
fraction_back [] (ahead h m) all = refl
fraction_back [] (following h m) all = refl
fraction_back (d ∷ ds) z all =
    let count : prefix_len is_ascii_digit ((d ∷ ds) ++ zone_text z) ≡ suc (length ds) = count_back (d ∷ ds) (zone_text z) all (no_digits z) in
    rw (count, some_digits (length ds)) (omega arith)

drop_back : (xs ys : List ℕ) → drop (length xs) (xs ++ ys) ≡ ys
drop_back [] ys = refl
drop_back (x ∷ xs) ys = drop_back xs ys

pub zone_found : (y mo d h mi s : ℕ) (ds : List ℕ) (z : Zone) → list_all is_ascii_digit ds ≡ true → zone_of (whole y mo d h mi s (fraction_text ds ++ zone_text z)) ≡ zone_text z
unfolding zone_of
zone_found y mo d h mi s ds z all = rw (fraction_back ds z all) (drop_back (fraction_text ds) (zone_text z))

pub long_enough : (y mo d h mi s : ℕ) (ds : List ℕ) (z : Zone) → nat_le 20 (length (whole y mo d h mi s (fraction_text ds ++ zone_text z))) ≡ true
long_enough y mo d h mi s ds z = by_length (length (fraction_text ds ++ zone_text z)) (some ds z)
  where
    by_length : (n : ℕ) → 1 ≤ n → nat_le 20 (suc (suc (suc (suc (suc (suc (suc (suc (suc (suc (suc (suc (suc (suc (suc (suc (suc (suc (suc n))))))))))))))))))) ≡ true
    by_length n low = grind (arith, nat_tests)

    some : (ds : List ℕ) (z : Zone) → 1 ≤ length (fraction_text ds ++ zone_text z)
    some [] utc = omega arith
    some [] (ahead h m) = omega arith
    some [] (following h m) = omega arith
    some (d ∷ ds) z = omega arith

pub millis_back : (ds rest : List ℕ) → millis_of (fraction_text ds ++ rest) (length (fraction_text ds)) ≡ millis ds
unfolding millis_of counted_digit
millis_back [] rest = refl
millis_back (a ∷ []) rest = omega arith
millis_back (a ∷ b ∷ []) rest = omega arith
millis_back (a ∷ b ∷ c ∷ ds) rest =
    let first : nat_lt 1 (suc (suc (suc (suc (length ds))))) ≡ true = below 1 (suc (suc (suc (suc (length ds))))) (omega arith) in
    let second : nat_lt 2 (suc (suc (suc (suc (length ds))))) ≡ true = below 2 (suc (suc (suc (suc (length ds))))) (omega arith) in
    let third : nat_lt 3 (suc (suc (suc (suc (length ds))))) ≡ true = below 3 (suc (suc (suc (suc (length ds))))) (omega arith) in
    rw (first, second, third) refl
