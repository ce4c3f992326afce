-- Each stamp is read as its moment, and what is written is read.
use Rattle.std.proofs.Common.{◌≡◌, ℕ, ◌+◌, ◌*◌, ◌/◌, ◌%◌, ◌<◌, ◌≤◌, true, nat_le, List, ◌++◌, Ok, refl, ap, ◌∙◌, arith, pos}
use Rattle.std.proofs.lemmas.Bool.Decides.{nat_tests}
use Rattle.std.specs.Char.{is_ascii_digit}
use Rattle.std.specs.List.{list_all}
use Rattle.jiff_core.proofs.CalendarLemmas.{days_in_month_bounds}
use Rattle.jiff_core.proofs.SignedLemmas.{signed_arith}
use Rattle.im_stamp.specs.Stamps.{IsStamp, IsWritten, Parts, utc, fraction_text, millis, seconds, seconds_since, three, zone_text}
use Rattle.im_stamp.specs.StampReading.{clock_of, is_stamp, moment_at, moment_of, seconds_of}
use Rattle.im_stamp.proofs.StampFacts.{whole, clock_back, date_back, digit_is, fraction_back, hour_back, long_enough, millis_back, minute_back, month_back, month_day_back, second_back, seconds_back, year_back, zone_back, zone_found}

abbrev text_of_parts : Parts → List ℕ
text_of_parts p = whole p.year p.month p.day p.hour p.minute p.second (fraction_text p.digits ++ zone_text p.zone)

is_stamp_back : (text : List ℕ) (p : Parts) → IsStamp text p → is_stamp (text_of_parts p) ≡ true
unfolding is_stamp
is_stamp_back text p w =
    let rest = fraction_text p.digits ++ zone_text p.zone in
    let m : p.month < 100 = omega (arith, w.exists.1) in
    let d : p.day < 100 = omega (arith, days_in_month_bounds (pos p.year) p.month, w.exists.2) in
    rw (long_enough p.year p.month p.day p.hour p.minute p.second p.digits p.zone, date_back p.year p.month p.day p.hour p.minute p.second rest w.early m d w.exists, clock_back p.year p.month p.day p.hour p.minute p.second rest w.hours w.minutes w.seconds, zone_found p.year p.month p.day p.hour p.minute p.second p.digits p.zone w.fraction, zone_back p.zone w.within) refl

seconds_of_back : (text : List ℕ) (p : Parts) → IsStamp text p → seconds_of (text_of_parts p) ≡ seconds p
unfolding seconds_of clock_of
seconds_of_back text p w =
    let rest = fraction_text p.digits ++ zone_text p.zone in
    let m : p.month < 100 = omega (arith, w.exists.1) in
    let d : p.day < 100 = omega (arith, days_in_month_bounds (pos p.year) p.month, w.exists.2) in
    rw (year_back p.year p.month p.day p.hour p.minute p.second rest w.early, month_back p.year p.month p.day p.hour p.minute p.second rest m, month_day_back p.year p.month p.day p.hour p.minute p.second rest d, hour_back p.year p.month p.day p.hour p.minute p.second rest w.hours, minute_back p.year p.month p.day p.hour p.minute p.second rest w.minutes, second_back p.year p.month p.day p.hour p.minute p.second rest w.seconds, zone_found p.year p.month p.day p.hour p.minute p.second p.digits p.zone w.fraction, seconds_back p.zone w.within) refl

pub stamp_read : (text : List ℕ) (p : Parts) → IsStamp text p → moment_of text ≡ moment_at (seconds p) (millis p.digits)
unfolding moment_of
stamp_read text p w =
    rw (w.spelled, is_stamp_back text p w, seconds_of_back text p w, fraction_back p.digits p.zone w.fraction, millis_back p.digits (zone_text p.zone)) refl

at_most : (n m : ℕ) → n ≤ m → nat_le n m ≡ true
at_most n m low = grind (arith, nat_tests)

moment_pos : (s m ms : ℕ) → s * 1000 + m ≡ ms → ms ≤ 253402207200000 → moment_at (pos s) m ≡ Ok ms
unfolding moment_at
moment_pos s m ms is last = rw (is, at_most ms 253402207200000 last) refl

since : (d c : ℕ) → seconds_since (pos d) c (pos 0) ≡ pos (d * 86400 + c)
since d c = omega (arith, signed_arith)

abbrev clock_parts : ℕ → ℕ → ℕ → ℕ → Parts
clock_parts year month day clock =
    record { year = year; month = month; day = day; hour = clock / 3600000; minute = clock / 60000 % 60; second = clock / 1000 % 60; digits = three (clock % 1000); zone = utc }

three_digits : (n : ℕ) → n < 1000 → list_all is_ascii_digit (three n) ≡ true
three_digits n low = rw (digit_is (n / 100) (omega arith), digit_is (n / 10 % 10) (omega arith), digit_is (n % 10) (omega arith)) refl

-- what is written is a stamp
pub written_is_stamp : (ms : ℕ) (text : List ℕ) (w : IsWritten ms text) → IsStamp text (clock_parts w.year w.month w.day (ms % 86400000))
written_is_stamp ms text w =
    record {
      early = w.early;
      exists = w.exists;
      hours = omega arith;
      minutes = omega arith;
      seconds = omega arith;
      fraction = three_digits (ms % 86400000 % 1000) (omega arith);
      within = tt;
      spelled = w.spelled;
    }

millis_three : (n : ℕ) → n < 1000 → millis (three n) ≡ n
millis_three n low = omega arith

pub written_read : (ms : ℕ) (text : List ℕ) → ms ≤ 253402207200000 → IsWritten ms text → moment_of text ≡ Ok ms
written_read ms text last w =
    let clock = ms % 86400000 in
    let p = clock_parts w.year w.month w.day clock in
    let c : ℕ = clock / 3600000 * 3600 + clock / 60000 % 60 * 60 + clock / 1000 % 60 in
    let whole_seconds : seconds p ≡ pos (ms / 86400000 * 86400 + c) = rw w.number (since (ms / 86400000) c) in
    let finer : millis p.digits ≡ clock % 1000 = millis_three (clock % 1000) (omega arith) in
    let total : (ms / 86400000 * 86400 + c) * 1000 + clock % 1000 ≡ ms = omega arith in
    stamp_read text p (written_is_stamp ms text w)
    ∙ ap (λ z. moment_at z (millis p.digits)) whole_seconds
    ∙ ap (λ m. moment_at (pos (ms / 86400000 * 86400 + c)) m) finer
    ∙ moment_pos (ms / 86400000 * 86400 + c) (clock % 1000) ms total last
