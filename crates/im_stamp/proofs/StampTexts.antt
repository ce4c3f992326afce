-- What is written is ASCII.
use Rattle.std.proofs.Common.{ℕ, zero, suc, ◌+◌, ◌/◌, ◌%◌, ◌<◌, List, [], ◌∷◌, ◌++◌, arith, pos}
use Rattle.std.proofs.lemmas.Str.{IsAscii-append, IsUtf8-from_ascii}
use Rattle.std.specs.Str.{IsAscii, IsUtf8}
use Rattle.jiff_core.proofs.CalendarLemmas.{days_in_month_bounds}
use Rattle.im_stamp.specs.Stamps.{IsWritten, clock_text, date_text, four, stamp_of, three, two}

cons_ascii : (c : ℕ) (bs : List ℕ) → c < 128 → IsAscii bs → IsAscii (c ∷ bs)
cons_ascii c bs low rest zero = low
cons_ascii c bs low rest (suc i) = rest i

nil_ascii : IsAscii []
nil_ascii i = omega arith

two_ascii : (n : ℕ) → n < 100 → IsAscii (two n)
two_ascii n low = cons_ascii (48 + n / 10) ((48 + n % 10) ∷ []) (omega arith) (cons_ascii (48 + n % 10) [] (omega arith) nil_ascii)

three_ascii : (n : ℕ) → n < 1000 → IsAscii (three n)
three_ascii n low = cons_ascii (48 + n / 100) ((48 + n / 10 % 10) ∷ (48 + n % 10) ∷ []) (omega arith) (cons_ascii (48 + n / 10 % 10) ((48 + n % 10) ∷ []) (omega arith) (cons_ascii (48 + n % 10) [] (omega arith) nil_ascii))

four_ascii : (n : ℕ) → n < 10000 → IsAscii (four n)
four_ascii n low =
    cons_ascii (48 + n / 1000) ((48 + n / 100 % 10) ∷ (48 + n / 10 % 10) ∷ (48 + n % 10) ∷ []) (omega arith)
    (cons_ascii (48 + n / 100 % 10) ((48 + n / 10 % 10) ∷ (48 + n % 10) ∷ []) (omega arith) (cons_ascii (48 + n / 10 % 10) ((48 + n % 10) ∷ []) (omega arith) (cons_ascii (48 + n % 10) [] (omega arith) nil_ascii)))

-- three numbers with a byte between them
joined_ascii : (a b c : List ℕ) (x : ℕ) → x < 128 → IsAscii a → IsAscii b → IsAscii c → IsAscii (a ++ x ∷ (b ++ x ∷ c))
joined_ascii a b c x low p q r = IsAscii-append a (x ∷ (b ++ x ∷ c)) p (cons_ascii x (b ++ x ∷ c) low (IsAscii-append b (x ∷ c) q (cons_ascii x c low r)))

stamp_ascii : (year month day clock : ℕ) → year < 10000 → month < 100 → day < 100 → clock < 86400000 → IsAscii (stamp_of year month day clock)
stamp_ascii year month day clock y m d c =
    let date = joined_ascii (four year) (two month) (two day) 45 (omega arith) (four_ascii year y) (two_ascii month m) (two_ascii day d) in
    let time = joined_ascii (two (clock / 3600000)) (two (clock / 60000 % 60)) (two (clock / 1000 % 60)) 58 (omega arith) (two_ascii (clock / 3600000) (omega arith)) (two_ascii (clock / 60000 % 60) (omega arith)) (two_ascii (clock / 1000 % 60) (omega arith)) in
    let finer = cons_ascii 46 (three (clock % 1000) ++ 90 ∷ []) (omega arith) (IsAscii-append (three (clock % 1000)) (90 ∷ []) (three_ascii (clock % 1000) (omega arith)) (cons_ascii 90 [] (omega arith) nil_ascii)) in
    let clocked = clock_text (clock / 3600000) (clock / 60000 % 60) (clock / 1000 % 60) in
    let following = 46 ∷ (three (clock % 1000) ++ 90 ∷ []) in
    IsAscii-append (date_text year month day) (84 ∷ (clocked ++ following)) date (cons_ascii 84 (clocked ++ following) (omega arith) (IsAscii-append clocked following time finer))

pub written_is_text : (ms : ℕ) (text : List ℕ) → IsWritten ms text → IsUtf8 text
written_is_text ms text w =
    let short : w.day < 100 = omega (arith, days_in_month_bounds (pos w.year) w.month, w.exists.2) in
    let ascii = stamp_ascii w.year w.month w.day (ms % 86400000) w.early (omega (arith, w.exists.1)) short (omega arith) in
    rw w.spelled (IsUtf8-from_ascii (stamp_of w.year w.month w.day (ms % 86400000)) ascii)
