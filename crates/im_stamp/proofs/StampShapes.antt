-- What is read as a stamp is one.
use Rattle.std.proofs.Common.{◌≡◌, ℕ, zero, suc, ◌+◌, ◌-◌, ◌*◌, ◌/◌, ◌%◌, ◌<◌, ◌≤◌, ◌⊎◌, inl, inr, Bool, true, false, ◌&&◌, ◌||◌, ◌==◌, nat_lt, nat_le, List, [], ◌∷◌, ◌++◌, codes, length, drop, refl, ap, ◌∙◌, arith, pos}
use Rattle.std.proofs.lemmas.Bool.Decides.{nat_tests}
use Rattle.std.proofs.lemmas.List.{drop_all}
use Rattle.std.proofs.lemmas.Slice.Eq.{bytes_eq-Decides}
use Rattle.std.specs.Char.{is_ascii_digit}
use Rattle.std.specs.List.{list_all, prefix_len}
use Rattle.std.specs.Prelude.{slice_index}
use Rattle.std.specs.Str.{bytes_eq}
use Rattle.jiff_core.specs.Calendar.{IsCivilDate, IsYear, days_in_month}
use Rattle.jiff_core.proofs.SignedLemmas.{signed_arith}
use Rattle.im_stamp.specs.Stamps.{IsStamp, IsZone, Parts, Zone, utc, ahead, following, fraction_text, millis, zone_text}
use Rattle.im_stamp.specs.StampReading.{digit_count, fraction_len, has_clock, has_date, is_day, is_offset, is_pair, is_stamp, is_zone, two_at, year_of, zone_of}
use Rattle.im_stamp.proofs.StampFacts.{and_parts, whole}

uncons : (t : List ℕ) (i : ℕ) → i < length t → drop i t ≡ slice_index t i ∷ drop (suc i) t
uncons [] i within = absurd (omega arith)
uncons (x ∷ t) zero within = refl
uncons (x ∷ t) (suc i) within = uncons t i (omega arith)

pub head_6 : (t : List ℕ) → 6 ≤ length t → t ≡ slice_index t 0 ∷ slice_index t 1 ∷ slice_index t 2 ∷ slice_index t 3 ∷ slice_index t 4 ∷ slice_index t 5 ∷ drop 6 t
head_6 t long = uncons t 0 (omega arith) ∙ ap (λ (r : List ℕ). slice_index t 0 ∷ r) (uncons t 1 (omega arith) ∙ ap (λ (r : List ℕ). slice_index t 1 ∷ r) (uncons t 2 (omega arith) ∙ ap (λ (r : List ℕ). slice_index t 2 ∷ r) (uncons t 3 (omega arith) ∙ ap (λ (r : List ℕ). slice_index t 3 ∷ r) (uncons t 4 (omega arith) ∙ ap (λ (r : List ℕ). slice_index t 4 ∷ r) (uncons t 5 (omega arith))))))

pub head_19 : (t : List ℕ) → 19 ≤ length t → t ≡ slice_index t 0 ∷ slice_index t 1 ∷ slice_index t 2 ∷ slice_index t 3 ∷ slice_index t 4 ∷ slice_index t 5 ∷ slice_index t 6 ∷ slice_index t 7 ∷ slice_index t 8 ∷ slice_index t 9 ∷ slice_index t 10 ∷ slice_index t 11 ∷ slice_index t 12 ∷ slice_index t 13 ∷ slice_index t 14 ∷ slice_index t 15 ∷ slice_index t 16 ∷ slice_index t 17 ∷ slice_index t 18 ∷ drop 19 t
head_19 t long = uncons t 0 (omega arith) ∙ ap (λ (r : List ℕ). slice_index t 0 ∷ r) (uncons t 1 (omega arith) ∙ ap (λ (r : List ℕ). slice_index t 1 ∷ r) (uncons t 2 (omega arith) ∙ ap (λ (r : List ℕ). slice_index t 2 ∷ r) (uncons t 3 (omega arith) ∙ ap (λ (r : List ℕ). slice_index t 3 ∷ r) (uncons t 4 (omega arith) ∙ ap (λ (r : List ℕ). slice_index t 4 ∷ r) (uncons t 5 (omega arith) ∙ ap (λ (r : List ℕ). slice_index t 5 ∷ r) (uncons t 6 (omega arith) ∙ ap (λ (r : List ℕ). slice_index t 6 ∷ r) (uncons t 7 (omega arith) ∙ ap (λ (r : List ℕ). slice_index t 7 ∷ r) (uncons t 8 (omega arith) ∙ ap (λ (r : List ℕ). slice_index t 8 ∷ r) (uncons t 9 (omega arith) ∙ ap (λ (r : List ℕ). slice_index t 9 ∷ r) (uncons t 10 (omega arith) ∙ ap (λ (r : List ℕ). slice_index t 10 ∷ r) (uncons t 11 (omega arith) ∙ ap (λ (r : List ℕ). slice_index t 11 ∷ r) (uncons t 12 (omega arith) ∙ ap (λ (r : List ℕ). slice_index t 12 ∷ r) (uncons t 13 (omega arith) ∙ ap (λ (r : List ℕ). slice_index t 13 ∷ r) (uncons t 14 (omega arith) ∙ ap (λ (r : List ℕ). slice_index t 14 ∷ r) (uncons t 15 (omega arith) ∙ ap (λ (r : List ℕ). slice_index t 15 ∷ r) (uncons t 16 (omega arith) ∙ ap (λ (r : List ℕ). slice_index t 16 ∷ r) (uncons t 17 (omega arith) ∙ ap (λ (r : List ℕ). slice_index t 17 ∷ r) (uncons t 18 (omega arith)))))))))))))))))))

and_4 : (a b c d : Bool) → (a && b && c && d) ≡ true → (a ≡ true) × (b ≡ true) × (c ≡ true) × (d ≡ true)
and_4 a b c d holds =
    let x3 = and_parts (a && b && c) d holds in
    let x2 = and_parts (a && b) c x3.0 in
    let x1 = and_parts (a) b x2.0 in
    (x1.0, x1.1, x2.1, x3.1)

and_5 : (a b c d e : Bool) → (a && b && c && d && e) ≡ true → (a ≡ true) × (b ≡ true) × (c ≡ true) × (d ≡ true) × (e ≡ true)
and_5 a b c d e holds =
    let x4 = and_parts (a && b && c && d) e holds in
    let x3 = and_parts (a && b && c) d x4.0 in
    let x2 = and_parts (a && b) c x3.0 in
    let x1 = and_parts (a) b x2.0 in
    (x1.0, x1.1, x2.1, x3.1, x4.1)

and_7 : (a b c d e f g : Bool) → (a && b && c && d && e && f && g) ≡ true → (a ≡ true) × (b ≡ true) × (c ≡ true) × (d ≡ true) × (e ≡ true) × (f ≡ true) × (g ≡ true)
and_7 a b c d e f g holds =
    let x6 = and_parts (a && b && c && d && e && f) g holds in
    let x5 = and_parts (a && b && c && d && e) f x6.0 in
    let x4 = and_parts (a && b && c && d) e x5.0 in
    let x3 = and_parts (a && b && c) d x4.0 in
    let x2 = and_parts (a && b) c x3.0 in
    let x1 = and_parts (a) b x2.0 in
    (x1.0, x1.1, x2.1, x3.1, x4.1, x5.1, x6.1)

and_9 : (a b c d e f g h i : Bool) → (a && b && c && d && e && f && g && h && i) ≡ true → (a ≡ true) × (b ≡ true) × (c ≡ true) × (d ≡ true) × (e ≡ true) × (f ≡ true) × (g ≡ true) × (h ≡ true) × (i ≡ true)
and_9 a b c d e f g h i holds =
    let x8 = and_parts (a && b && c && d && e && f && g && h) i holds in
    let x7 = and_parts (a && b && c && d && e && f && g) h x8.0 in
    let x6 = and_parts (a && b && c && d && e && f) g x7.0 in
    let x5 = and_parts (a && b && c && d && e) f x6.0 in
    let x4 = and_parts (a && b && c && d) e x5.0 in
    let x3 = and_parts (a && b && c) d x4.0 in
    let x2 = and_parts (a && b) c x3.0 in
    let x1 = and_parts (a) b x2.0 in
    (x1.0, x1.1, x2.1, x3.1, x4.1, x5.1, x6.1, x7.1, x8.1)

same : (x y : ℕ) → (x == y) ≡ true → x ≡ y
same x y h = grind (arith, nat_tests)

under : (x y : ℕ) → nat_lt x y ≡ true → x < y
under x y h = grind (arith, nat_tests)

upto : (x y : ℕ) → nat_le x y ≡ true → x ≤ y
upto x y h = grind (arith, nat_tests)

digit_low : (a : ℕ) → is_ascii_digit a ≡ true → 48 ≤ a
digit_low a h = grind (arith, nat_tests)

digit_high : (a : ℕ) → is_ascii_digit a ≡ true → a ≤ 57
digit_high a h = grind (arith, nat_tests)

pair_of : (a b : ℕ) → (is_ascii_digit a && is_ascii_digit b) ≡ true → (a ≡ 48 + ((a - 48) * 10 + (b - 48)) / 10) × (b ≡ 48 + ((a - 48) * 10 + (b - 48)) % 10) × ((a - 48) * 10 + (b - 48) < 100)
pair_of a b h =
    let both = and_parts (is_ascii_digit a) (is_ascii_digit b) h in
    let a_low = digit_low a both.0 in
    let a_high = digit_high a both.0 in
    let b_low = digit_low b both.1 in
    let b_high = digit_high b both.1 in
    (omega arith, omega arith, omega arith)

pair_is : (t : List ℕ) (i : ℕ) → is_pair t i ≡ true → (slice_index t i ≡ 48 + two_at t i / 10) × (slice_index t (i + 1) ≡ 48 + two_at t i % 10) × (two_at t i < 100)
unfolding is_pair two_at
pair_is t i h = pair_of (slice_index t i) (slice_index t (i + 1)) h

either_of : (a b : Bool) → (a || b) ≡ true → (a ≡ true) ⊎ (b ≡ true)
either_of true b h = inl refl
either_of false b h = inr h

-- ---- the zone

record ZoneOf (t : List ℕ) : Type 0 where
  zone : Zone
  within : IsZone zone
  spelled : t ≡ zone_text zone

offset_found : (t : List ℕ) → is_offset t ≡ true → ZoneOf t
unfolding is_offset
offset_found t h =
    let x = and_7 (length t == 6) ((slice_index t 0 == 43) || (slice_index t 0 == 45)) (is_pair t 1) (slice_index t 3 == 58) (is_pair t 4) (nat_lt (two_at t 1) 24) (nat_lt (two_at t 4) 60) h in
    let six : length t ≡ 6 = same (length t) 6 x.0 in
    let hours = pair_is t 1 x.2 in
    let minutes = pair_is t 4 x.4 in
    let colon : slice_index t 3 ≡ 58 = same (slice_index t 3) 58 x.3 in
    let none : drop 6 t ≡ [] = drop_all 6 t (omega arith) in
    let all = head_6 t (omega arith) in
    let h_low = under (two_at t 1) 24 x.5 in
    let m_low = under (two_at t 4) 60 x.6 in
    elim (either_of (slice_index t 0 == 43) (slice_index t 0 == 45) x.1) [
      | inl plus ↦
          let sign : slice_index t 0 ≡ 43 = same (slice_index t 0) 43 plus in
          record { zone = ahead (two_at t 1) (two_at t 4); within = (h_low, m_low); spelled = all ∙ (λ i. sign i ∷ hours.0 i ∷ hours.1 i ∷ colon i ∷ minutes.0 i ∷ minutes.1 i ∷ none i) }
      | inr minus ↦
          let sign : slice_index t 0 ≡ 45 = same (slice_index t 0) 45 minus in
          record { zone = following (two_at t 1) (two_at t 4); within = (h_low, m_low); spelled = all ∙ (λ i. sign i ∷ hours.0 i ∷ hours.1 i ∷ colon i ∷ minutes.0 i ∷ minutes.1 i ∷ none i) }
    ]

zone_is : (t : List ℕ) → is_zone t ≡ true → ZoneOf t
unfolding is_zone
zone_is t h =
    elim (either_of (bytes_eq t (codes "Z")) (is_offset t) h) [
      | inl z ↦ record { zone = utc; within = tt; spelled = (bytes_eq-Decides t (codes "Z")).0 z }
      | inr o ↦ offset_found t o
    ]

-- ---- the fraction

record DigitsOf (t : List ℕ) : Type 0 where
  digits : List ℕ
  all : list_all is_ascii_digit digits ≡ true
  count : length digits ≡ prefix_len is_ascii_digit t
  split : t ≡ digits ++ drop (prefix_len is_ascii_digit t) t

front_on : (n x : ℕ) (t : List ℕ) → drop (1 + n) (x ∷ t) ≡ drop n t
front_on n x t = let e : 1 + n ≡ suc n = omega arith in rw e refl

after_front : (n x : ℕ) (t : List ℕ) → drop (n + 1) (x ∷ t) ≡ drop n t
after_front n x t = let e : n + 1 ≡ suc n = omega arith in rw e refl

digits_at : (x : ℕ) (t : List ℕ) (b : Bool) → is_ascii_digit x ≡ b → DigitsOf t → DigitsOf (x ∷ t)
digits_at x t true is more = record {
  digits = x ∷ more.digits;
  all = rw (is, more.all) refl;
  count = rw is (omega (arith, more.count));
  split = rw (is, front_on (prefix_len is_ascii_digit t) x t) (ap (λ (r : List ℕ). x ∷ r) more.split);
}
digits_at x t false is more = record { digits = []; all = refl; count = rw is refl; split = rw is refl }

digits_found : (t : List ℕ) → DigitsOf t
digits_found [] = record { digits = []; all = refl; count = refl; split = refl }
digits_found (x ∷ t) = digits_at x t (is_ascii_digit x) refl (digits_found t)

record RestOf (t : List ℕ) : Type 0 where
  digits : List ℕ
  all : list_all is_ascii_digit digits ≡ true
  zone : Zone
  within : IsZone zone
  spelled : t ≡ fraction_text digits ++ zone_text zone

some_fraction : (ds : List ℕ) → 0 < length ds → fraction_text ds ≡ 46 ∷ ds
some_fraction [] some = absurd (omega arith)
some_fraction (d ∷ ds) some = refl

rest_by : (x : ℕ) (more : List ℕ) (b : Bool) → ((x == 46) && nat_lt 0 (prefix_len is_ascii_digit more)) ≡ b → is_zone (drop (fraction_len (x ∷ more)) (x ∷ more)) ≡ true → RestOf (x ∷ more)
unfolding fraction_len digit_count
rest_by x more true is h =
    let parts = and_parts (x == 46) (nat_lt 0 (prefix_len is_ascii_digit more)) is in
    let ds = digits_found more in
    let z = zone_is (drop (prefix_len is_ascii_digit more) more) (rw (is, after_front (prefix_len is_ascii_digit more) x more) at h) in
    let point = same x 46 parts.0 in
    let there = under 0 (prefix_len is_ascii_digit more) parts.1 in
    let some : 0 < length ds.digits = omega (arith, ds.count, there) in
    let following = ds.split ∙ ap (λ (r : List ℕ). ds.digits ++ r) z.spelled in
    record { digits = ds.digits; all = ds.all; zone = z.zone; within = z.within; spelled = rw (some_fraction ds.digits some) (λ i. point i ∷ following i) }
rest_by x more false is h =
    let z = zone_is (x ∷ more) (rw is at h) in
    record { digits = []; all = refl; zone = z.zone; within = z.within; spelled = z.spelled }

rest_found : (t : List ℕ) → is_zone (drop (fraction_len t) t) ≡ true → RestOf t
unfolding fraction_len
rest_found [] h = let z = zone_is [] h in record { digits = []; all = refl; zone = z.zone; within = z.within; spelled = z.spelled }
rest_found (x ∷ more) h = rest_by x more ((x == 46) && nat_lt 0 (prefix_len is_ascii_digit more)) refl h

-- ---- the date and the clock

year_digits : (a b : ℕ) → a < 100 → b < 100 → (48 + a / 10 ≡ 48 + (a * 100 + b) / 1000) × (48 + a % 10 ≡ 48 + (a * 100 + b) / 100 % 10) × (48 + b / 10 ≡ 48 + (a * 100 + b) / 10 % 10) × (48 + b % 10 ≡ 48 + (a * 100 + b) % 10)
year_digits a b p q = (omega arith, omega arith, omega arith, omega arith)

civil_found : (y m d : ℕ) → is_day y m d ≡ true → IsCivilDate (pos y) m d
unfolding is_day
civil_found y m d h =
    let x = and_5 (nat_le y 9999) (nat_le 1 m) (nat_le m 12) (nat_le 1 d) (nat_le d (days_in_month (pos y) m)) h in
    let early = upto y 9999 x.0 in
    let year : IsYear (pos y) = omega (arith, signed_arith) in
    (year, (upto 1 m x.1, upto m 12 x.2), (upto 1 d x.3, upto d (days_in_month (pos y) m) x.4))

pub stamp_found : (t : List ℕ) → is_stamp t ≡ true → (p : Parts) × IsStamp t p
unfolding is_stamp has_date has_clock year_of zone_of
stamp_found t h =
    let x = and_4 (nat_le 20 (length t)) (has_date t) (has_clock t) (is_zone (zone_of t)) h in
    let long = upto 20 (length t) x.0 in
    let d = and_7 (is_pair t 0) (is_pair t 2) (slice_index t 4 == 45) (is_pair t 5) (slice_index t 7 == 45) (is_pair t 8) (is_day (year_of t) (two_at t 5) (two_at t 8)) x.1 in
    let c = and_9 (slice_index t 10 == 84) (is_pair t 11) (slice_index t 13 == 58) (is_pair t 14) (slice_index t 16 == 58) (is_pair t 17) (nat_lt (two_at t 11) 24) (nat_lt (two_at t 14) 60) (nat_lt (two_at t 17) 60) x.2 in
    let rest = rest_found (drop 19 t) x.3 in
    let a = pair_is t 0 d.0 in
    let b = pair_is t 2 d.1 in
    let y = year_digits (two_at t 0) (two_at t 2) a.2 b.2 in
    let mo = pair_is t 5 d.3 in
    let da = pair_is t 8 d.5 in
    let ho = pair_is t 11 c.1 in
    let mi = pair_is t 14 c.3 in
    let se = pair_is t 17 c.5 in
    let s0 = a.0 ∙ y.0 in
    let s1 = a.1 ∙ y.1 in
    let s2 = b.0 ∙ y.2 in
    let s3 = b.1 ∙ y.3 in
    let s4 = same (slice_index t 4) 45 d.2 in
    let s7 = same (slice_index t 7) 45 d.4 in
    let s10 = same (slice_index t 10) 84 c.0 in
    let s13 = same (slice_index t 13) 58 c.2 in
    let s16 = same (slice_index t 16) 58 c.4 in
    let early : year_of t < 10000 = omega (arith, a.2, b.2) in
    let shape : t ≡ whole (year_of t) (two_at t 5) (two_at t 8) (two_at t 11) (two_at t 14) (two_at t 17) (fraction_text rest.digits ++ zone_text rest.zone) =
    head_19 t (omega arith) ∙ (λ i. s0 i ∷ s1 i ∷ s2 i ∷ s3 i ∷ s4 i ∷ mo.0 i ∷ mo.1 i ∷ s7 i ∷ da.0 i ∷ da.1 i ∷ s10 i ∷ ho.0 i ∷ ho.1 i ∷ s13 i ∷ mi.0 i ∷ mi.1 i ∷ s16 i ∷ se.0 i ∷ se.1 i ∷ rest.spelled i) in (
      record { year = year_of t; month = two_at t 5; day = two_at t 8; hour = two_at t 11; minute = two_at t 14; second = two_at t 17; digits = rest.digits; zone = rest.zone },
      record {
        early = early;
        exists = civil_found (year_of t) (two_at t 5) (two_at t 8) d.6;
        hours = under (two_at t 11) 24 c.6;
        minutes = under (two_at t 14) 60 c.7;
        seconds = under (two_at t 17) 60 c.8;
        fraction = rest.all;
        within = rest.within;
        spelled = shape;
      },
    )

-- milliseconds are below a second
pub millis_low : (ds : List ℕ) → list_all is_ascii_digit ds ≡ true → millis ds < 1000
millis_low [] all = omega arith
millis_low (a ∷ []) all =
    let p = and_parts (is_ascii_digit a) true all in
    let x = digit_high a p.0 in
    omega arith
millis_low (a ∷ b ∷ []) all =
    let p = and_parts (is_ascii_digit a) (is_ascii_digit b && true) all in
    let q = and_parts (is_ascii_digit b) true p.1 in
    let x = digit_high a p.0 in
    let y = digit_high b q.0 in
    omega arith
millis_low (a ∷ b ∷ c ∷ ds) all =
    let p = and_parts (is_ascii_digit a) (is_ascii_digit b && (is_ascii_digit c && list_all is_ascii_digit ds)) all in
    let q = and_parts (is_ascii_digit b) (is_ascii_digit c && list_all is_ascii_digit ds) p.1 in
    let r = and_parts (is_ascii_digit c) (list_all is_ascii_digit ds) q.1 in
    let x = digit_high a p.0 in
    let y = digit_high b q.0 in
    let z = digit_high c r.0 in
    omega arith
