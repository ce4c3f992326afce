-- Stamps are printable, and short.
use Rattle.std.proofs.Common.{◌≡◌, ℕ, ◌+◌, ◌/◌, ◌%◌, ◌<◌, min, true, List, [], ◌∷◌, ◌++◌, refl, ap, arith, pos}
use Rattle.std.proofs.lemmas.Bool.{and_from}
use Rattle.std.proofs.lemmas.Bool.Decides.{nat_tests}
use Rattle.std.specs.List.{list_all}
use Rattle.jiff_core.proofs.CalendarLemmas.{days_in_month_bounds}
use Rattle.law_limits.proofs.Characters.{printable_append, said_printable}
use Rattle.law_limits.specs.Texts.{Said, is_printable}
use Rattle.im_stamp.proofs.Dates.{stamp_at_is_written}
use Rattle.im_stamp.specs.Dates.{date_of, stamp_at, stamp_on}
use Rattle.im_stamp.specs.Stamps.{IsWritten, clock_text, date_text, four, stamp_of, three, two}

glyph : (n : ℕ) → n < 78 → is_printable (48 + n) ≡ true
glyph n small = grind (arith, nat_tests)

two_printable : (n : ℕ) → n < 100 → list_all is_printable (two n) ≡ true
two_printable n low = and_from _ _ (glyph (n / 10) (omega arith)) (and_from _ _ (glyph (n % 10) (omega arith)) refl)

three_printable : (n : ℕ) → n < 1000 → list_all is_printable (three n) ≡ true
three_printable n low = and_from _ _ (glyph (n / 100) (omega arith)) (and_from _ _ (glyph (n / 10 % 10) (omega arith)) (and_from _ _ (glyph (n % 10) (omega arith)) refl))

four_printable : (n : ℕ) → n < 10000 → list_all is_printable (four n) ≡ true
four_printable n low =
    and_from _ _ (glyph (n / 1000) (omega arith)) (and_from _ _ (glyph (n / 100 % 10) (omega arith)) (and_from _ _ (glyph (n / 10 % 10) (omega arith)) (and_from _ _ (glyph (n % 10) (omega arith)) refl)))

-- three numbers with a byte between them
joined_printable : (a b c : List ℕ) (x : ℕ) → is_printable x ≡ true → list_all is_printable a ≡ true → list_all is_printable b ≡ true → list_all is_printable c ≡ true → list_all is_printable (a ++ x ∷ (b ++ x ∷ c)) ≡ true
joined_printable a b c x low p q r = printable_append a (x ∷ (b ++ x ∷ c)) p (and_from _ _ low (printable_append b (x ∷ c) q (and_from _ _ low r)))

stamp_printable : (year month day clock : ℕ) → year < 10000 → month < 100 → day < 100 → clock < 86400000 → list_all is_printable (stamp_of year month day clock) ≡ true
stamp_printable year month day clock y m d c =
    let date = joined_printable (four year) (two month) (two day) 45 refl (four_printable year y) (two_printable month m) (two_printable day d) in
    let time =
    joined_printable (two (clock / 3600000)) (two (clock / 60000 % 60)) (two (clock / 1000 % 60)) 58 refl (two_printable (clock / 3600000) (omega arith)) (two_printable (clock / 60000 % 60) (omega arith))
    (two_printable (clock / 1000 % 60) (omega arith)) in
    let finer : list_all is_printable (46 ∷ (three (clock % 1000) ++ 90 ∷ [])) ≡ true =
    and_from _ _ refl (printable_append (three (clock % 1000)) (90 ∷ []) (three_printable (clock % 1000) (omega arith)) refl) in
    let clocked = clock_text (clock / 3600000) (clock / 60000 % 60) (clock / 1000 % 60) in
    let following = 46 ∷ (three (clock % 1000) ++ 90 ∷ []) in
    printable_append (date_text year month day) (84 ∷ (clocked ++ following)) date (and_from _ _ refl (printable_append clocked following time finer))

written_said : (ms : ℕ) (text : List ℕ) → IsWritten ms text → Said 144 text
written_said ms text w =
    let short : w.day < 100 = omega (arith, days_in_month_bounds (pos w.year) w.month, w.exists.2) in
    let printable = stamp_printable w.year w.month w.day (ms % 86400000) w.early (omega (arith, w.exists.1)) short (omega arith) in
    rw w.spelled (said_printable 144 (stamp_of w.year w.month w.day (ms % 86400000)) printable (omega arith))

pub stamp_said : (ms : ℕ) → Said 144 (stamp_at ms)
stamp_said ms =
    let last = min ms 253402207200000 in
    let same : min last 253402207200000 ≡ last = omega arith in
    let stamp : stamp_at last ≡ stamp_at ms = ap (λ x. stamp_on (date_of (x / 86400000)) (x % 86400000)) same in
    rw (← stamp) (written_said last (stamp_at last) (stamp_at_is_written last (omega arith)))
