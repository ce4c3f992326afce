-- What the lines of a wire schedule are read as may stand there, and is what they say.
use Rattle.std.proofs.Common.{◌≡◌, ℕ, ◌+◌, ◌≤◌, true, List, [], ◌∷◌, ◌++◌, Option, Some, Result, Ok, Err, refl, sym, ap, subst, ◌∙◌, inl, inr, codes, append_assoc, arith}
use Rattle.std.specs.Prelude.{◌&&◌, IsTrue, nat_lt, nat_le}
use Rattle.std.specs.Fmt.{decimal}
use Rattle.std.specs.List.{flat_map}
use Rattle.std.specs.Str.{bytes_eq, is_utf8}
use Rattle.std.proofs.lemmas.Bool.{and_from, and_parts, leb-true, le-leb}
use Rattle.std.proofs.lemmas.Bool.Decides.{nat_tests}
use Rattle.std.proofs.lemmas.List.Concat.{flat_map-cons}
use Rattle.std.proofs.lemmas.Slice.Eq.{bytes_eq-Decides}
use Rattle.base_io.specs.Names.{is_among}
use Rattle.cmd_schedule.specs.Reading.{Cut, Piece, cut_of, either, last_field, next_field, number_within, read_words}
use Rattle.cmd_schedule.specs.WireGrammar.{WireAbove, AreWireLines, above_by, are_few, are_times, count_text, is_count, is_made, may_run, wire_step_text}
use Rattle.cmd_schedule.specs.WireReading.{conn_of, count_of, fit_with, or_unknown, read_close, read_common, read_cut, read_device_name, read_dial, read_down, read_forget, read_moved, read_moves, read_pass, read_run, read_up, read_wire_line, read_wire_lines, read_wire_words, times_of, as_count, with_wire_front}
use Rattle.cmd_schedule.specs.declared.fault.LineWhy.{LineWhy}
use Rattle.cmd_schedule.specs.declared.fault.ScheduleFault.{ScheduleFault}
use Rattle.cmd_schedule.specs.declared.fault.ScheduleFault.TheVariants.{BadLine}
use Rattle.cmd_schedule.specs.declared.schedule.Count.{Count}
use Rattle.cmd_schedule.specs.declared.schedule.Count.TheVariants.{Number, All}
use Rattle.cmd_schedule.specs.declared.schedule.TheConstants.{MOST_DIALS, MOST_NUMBER, MOST_TIMES, MOST_TIMES_TOGETHER}
use Rattle.cmd_schedule.specs.declared.schedule.WireLine.{WireLine}
use Rattle.cmd_schedule.specs.declared.schedule.WireStep.{WireStep}
use Rattle.cmd_schedule.specs.declared.schedule.WireStep.TheVariants.{Common, Dial, Forget, Close, Up, Down, Cut as CutOff, Pass, Run}
use Rattle.cmd_schedule.proofs.Found.{bind_ok, chosen, cut_back, done, ended_text, gate, last_is, next_is, ok_is, text_of_pieces, with_rest, words_found}
use Rattle.cmd_schedule.proofs.Numbers.{number_found}
use Rattle.cmd_schedule.specs.declared.fault.LineWhy.TheVariants as why

-- the step may stand, and the line of this first word and these fields is its text
abbrev Says : WireAbove → List ℕ → Option (List ℕ) → WireStep → Type 0
Says above word fields step = IsTrue (may_run above step) × IsTrue (are_few above step) × (wire_step_text step ≡ with_rest word fields)

-- ---- lines with a device

-- a device that is declared above, and the field that is its name
abbrev IsDevice : WireAbove → Option (List ℕ) → List ℕ → Type 0
IsDevice above fields device = (is_among device above.names.devices ≡ true) × (fields ≡ Some device)

device_is : (above : WireAbove) (fields : Option (List ℕ)) (device : List ℕ) → read_device_name above fields ≡ Ok device → IsDevice above fields device
unfolding read_device_name
device_is above fields device e =
    let a = bind_ok (last_field fields) _ device e in
    let b = gate (is_among a.0 above.names.devices) why.Unknown _ device a.2 in
    subst (λ (d : List ℕ). IsDevice above fields d) (ok_is a.0 device b.1) (b.0, last_is fields a.0 a.1)

dial_says : (above : WireAbove) (device : List ℕ) (fields : Option (List ℕ)) → nat_lt above.dials MOST_DIALS ≡ true → IsDevice above fields device → Says above (codes "dial") fields (Dial device)
dial_says above device fields few is = (is.0, few, rw is.1 refl)

dial_found : (above : WireAbove) (fields : Option (List ℕ)) (step : WireStep) → read_dial above fields ≡ Ok step → Says above (codes "dial") fields step
unfolding read_dial
dial_found above fields step e =
    let a = gate (nat_lt above.dials MOST_DIALS) why.Many _ step e in
    let b = bind_ok (read_device_name above fields) _ step a.1 in
    subst (λ (s : WireStep). Says above (codes "dial") fields s) (ok_is (Dial b.0) step b.2) (dial_says above b.0 fields a.0 (device_is above fields b.0 b.1))

forget_says : (above : WireAbove) (device : List ℕ) (fields : Option (List ℕ)) → IsDevice above fields device → Says above (codes "forget") fields (Forget device)
forget_says above device fields is = (is.0, refl, rw is.1 refl)

forget_found : (above : WireAbove) (fields : Option (List ℕ)) (step : WireStep) → read_forget above fields ≡ Ok step → Says above (codes "forget") fields step
unfolding read_forget
forget_found above fields step e =
    let b = bind_ok (read_device_name above fields) _ step e in
    subst (λ (s : WireStep). Says above (codes "forget") fields s) (ok_is (Forget b.0) step b.2) (forget_says above b.0 fields (device_is above fields b.0 b.1))

close_says : (above : WireAbove) (device : List ℕ) (fields : Option (List ℕ)) → IsDevice above fields device → Says above (codes "close") fields (Close device)
close_says above device fields is = (is.0, refl, rw is.1 refl)

close_found : (above : WireAbove) (fields : Option (List ℕ)) (step : WireStep) → read_close above fields ≡ Ok step → Says above (codes "close") fields step
unfolding read_close
close_found above fields step e =
    let b = bind_ok (read_device_name above fields) _ step e in
    subst (λ (s : WireStep). Says above (codes "close") fields s) (ok_is (Close b.0) step b.2) (close_says above b.0 fields (device_is above fields b.0 b.1))

-- ---- connections, counts and times

unknown_ok : (r : Result ℕ LineWhy) (n : ℕ) → or_unknown r ≡ Ok n → r ≡ Ok n
unknown_ok (Ok m) n e = e
unknown_ok (Err reason) n e = absurd cc

-- a connection that was made above, and the field that is its number
abbrev IsConn : WireAbove → List ℕ → ℕ → Type 0
IsConn above field conn = (is_made above conn ≡ true) × (field ≡ decimal conn)

abbrev pub AreCountable : WireAbove → Type 0
AreCountable above = above.dials ≤ MOST_DIALS

conn_is : (above : WireAbove) (field : List ℕ) (conn : ℕ) → AreCountable above → conn_of above.dials field ≡ Ok conn → IsConn above field conn
conn_is above field conn bound e =
    let n = number_found 1 above.dials field conn (omega (arith, bound)) (unknown_ok (number_within 1 above.dials field) conn e) in
    (and_from _ _ (le-leb 1 conn n.0) (le-leb conn above.dials n.1), n.2)

-- a count, and the field that says it
abbrev IsCount : List ℕ → Count → Type 0
IsCount field count = (is_count count ≡ true) × (field ≡ count_text count)

as_count_ok : (r : Result ℕ LineWhy) (count : Count) → as_count r ≡ Ok count → (n : ℕ) × (r ≡ Ok n) × (Number n ≡ count)
as_count_ok (Ok n) count e = (n, refl, cc)
as_count_ok (Err reason) count e = absurd cc

number_counts : (field : List ℕ) (n : ℕ) → n ≤ MOST_NUMBER → field ≡ decimal n → IsCount field (Number n)
number_counts field n high is = (le-leb n MOST_NUMBER high, is)

all_counts : (field : List ℕ) → field ≡ codes "all" → IsCount field All
all_counts field is = (refl, is)

count_is : (field : List ℕ) (count : Count) → count_of field ≡ Ok count → IsCount field count
count_is field count e =
    elim (chosen (bytes_eq field (codes "all")) (done All) _ count e) [
      | inl p ↦ subst (λ (c : Count). IsCount field c) (ok_is All count p.1) (all_counts field ((bytes_eq-Decides field (codes "all")).0 p.0))
      | inr p ↦
          let a = as_count_ok (number_within 0 MOST_NUMBER field) count p.1 in
          let n = number_found 0 MOST_NUMBER field a.0 (omega arith) a.1 in
          subst (λ (c : Count). IsCount field c) a.2 (number_counts field a.0 n.1 n.2)
    ]

-- times that fit, and the field that is their number
abbrev AreTimes : WireAbove → List ℕ → ℕ → Type 0
AreTimes above field times = (are_times times ≡ true) × (nat_le (above.times + times) MOST_TIMES_TOGETHER ≡ true) × (field ≡ decimal times)

times_are : (above : WireAbove) (field : List ℕ) (times : ℕ) → fit_with above.times (times_of field) ≡ true → times_of field ≡ Ok times → AreTimes above field times
times_are above field times fit e =
    let n = number_found 1 MOST_TIMES field times (omega arith) e in
    (and_from _ _ (le-leb 1 times n.0) (le-leb times MOST_TIMES n.1), ap (λ (r : Result ℕ LineWhy). fit_with above.times r) (sym e) ∙ fit, n.2)

-- ---- lines with a connection

-- a connection that was made above and a count, and the fields that say them
abbrev IsMoved : WireAbove → Option (List ℕ) → ℕ × Count → Type 0
IsMoved above fields moved = (is_made above moved.0 && is_count moved.1 ≡ true) × (fields ≡ Some (decimal moved.0 ++ 32 ∷ count_text moved.1))

moved_says : (above : WireAbove) (first field : List ℕ) (conn : ℕ) (count : Count) (fields rest : Option (List ℕ)) → IsConn above first conn → IsCount field count
    → fields ≡ Some (with_rest first rest) → rest ≡ Some field → IsMoved above fields (conn, count)
moved_says above first field conn count fields rest made counted is after = (and_from _ _ made.0 counted.0, rw (is, after, made.1, counted.1) refl)

moved_is : (above : WireAbove) (fields : Option (List ℕ)) (moved : ℕ × Count) → AreCountable above → read_moved above fields ≡ Ok moved → IsMoved above fields moved
unfolding read_moved
moved_is above fields moved bound e =
    let a = bind_ok (next_field fields) _ moved e in
    let l = bind_ok (last_field a.0.rest) _ moved a.2 in
    let k = bind_ok (conn_of above.dials a.0.front) _ moved l.2 in
    let n = bind_ok (count_of l.0) _ moved k.2 in
    subst (λ (m : ℕ × Count). IsMoved above fields m) (ok_is (k.0, n.0) moved n.2)
    (moved_says above a.0.front l.0 k.0 n.0 fields a.0.rest (conn_is above a.0.front k.0 bound k.1) (count_is l.0 n.0 n.1) (next_is fields a.0 a.1) (last_is a.0.rest l.0 l.1))

up_says : (above : WireAbove) (conn : ℕ) (count : Count) (fields : Option (List ℕ)) → IsMoved above fields (conn, count) → Says above (codes "up") fields (Up conn count)
up_says above conn count fields is = (is.0, refl, rw is.1 refl)

up_found : (above : WireAbove) (fields : Option (List ℕ)) (step : WireStep) → AreCountable above → read_up above fields ≡ Ok step → Says above (codes "up") fields step
unfolding read_up
up_found above fields step bound e =
    let a = bind_ok (read_moved above fields) _ step e in
    subst (λ (s : WireStep). Says above (codes "up") fields s) (ok_is (Up a.0.0 a.0.1) step a.2) (up_says above a.0.0 a.0.1 fields (moved_is above fields a.0 bound a.1))

down_says : (above : WireAbove) (conn : ℕ) (count : Count) (fields : Option (List ℕ)) → IsMoved above fields (conn, count) → Says above (codes "down") fields (Down conn count)
down_says above conn count fields is = (is.0, refl, rw is.1 refl)

down_found : (above : WireAbove) (fields : Option (List ℕ)) (step : WireStep) → AreCountable above → read_down above fields ≡ Ok step → Says above (codes "down") fields step
unfolding read_down
down_found above fields step bound e =
    let a = bind_ok (read_moved above fields) _ step e in
    subst (λ (s : WireStep). Says above (codes "down") fields s) (ok_is (Down a.0.0 a.0.1) step a.2) (down_says above a.0.0 a.0.1 fields (moved_is above fields a.0 bound a.1))

cut_says : (above : WireAbove) (first second third : List ℕ) (conn up down : ℕ) (fields rest last : Option (List ℕ)) → IsConn above first conn → up ≤ MOST_NUMBER → down ≤ MOST_NUMBER
    → fields ≡ Some (with_rest first rest) → rest ≡ Some (with_rest second last) → last ≡ Some third → second ≡ decimal up → third ≡ decimal down → Says above (codes "cut") fields (CutOff conn up down)
cut_says above first second third conn up down fields rest last made first_low second_low is after then up_is down_is = (
  and_from _ _ (and_from _ _ made.0 (le-leb up MOST_NUMBER first_low)) (le-leb down MOST_NUMBER second_low),
  refl,
  ap (λ (xs : List ℕ). codes "cut " ++ xs) (append_assoc (decimal conn) (32 ∷ decimal up) (32 ∷ decimal down)) ∙ rw (is, after, then, made.1, up_is, down_is) refl,
)

cut_found : (above : WireAbove) (fields : Option (List ℕ)) (step : WireStep) → AreCountable above → read_cut above fields ≡ Ok step → Says above (codes "cut") fields step
unfolding read_cut
cut_found above fields step bound e =
    let a = bind_ok (next_field fields) _ step e in
    let b = bind_ok (next_field a.0.rest) _ step a.2 in
    let l = bind_ok (last_field b.0.rest) _ step b.2 in
    let k = bind_ok (conn_of above.dials a.0.front) _ step l.2 in
    let u = bind_ok (number_within 0 MOST_NUMBER b.0.front) _ step k.2 in
    let d = bind_ok (number_within 0 MOST_NUMBER l.0) _ step u.2 in
    let n = number_found 0 MOST_NUMBER b.0.front u.0 (omega arith) u.1 in
    let m = number_found 0 MOST_NUMBER l.0 d.0 (omega arith) d.1 in
    subst (λ (s : WireStep). Says above (codes "cut") fields s) (ok_is (CutOff k.0 u.0 d.0) step d.2)
    (cut_says above a.0.front b.0.front l.0 k.0 u.0 d.0 fields a.0.rest b.0.rest (conn_is above a.0.front k.0 bound k.1) n.1 m.1
    (next_is fields a.0 a.1) (next_is a.0.rest b.0 b.1) (last_is b.0.rest l.0 l.1) n.2 m.2)

pass_says : (above : WireAbove) (first field : List ℕ) (conn times : ℕ) (fields rest : Option (List ℕ)) → IsConn above first conn → AreTimes above field times
    → fields ≡ Some (with_rest first rest) → rest ≡ Some field → Says above (codes "pass") fields (Pass conn times)
pass_says above first field conn times fields rest made fit is after = (and_from _ _ made.0 fit.0, fit.1, rw (is, after, made.1, fit.2) refl)

pass_found : (above : WireAbove) (fields : Option (List ℕ)) (step : WireStep) → AreCountable above → read_pass above fields ≡ Ok step → Says above (codes "pass") fields step
unfolding read_pass
pass_found above fields step bound e =
    let a = bind_ok (next_field fields) _ step e in
    let l = bind_ok (last_field a.0.rest) _ step a.2 in
    let g = gate (fit_with above.times (times_of l.0)) why.Many _ step l.2 in
    let k = bind_ok (conn_of above.dials a.0.front) _ step g.1 in
    let t = bind_ok (times_of l.0) _ step k.2 in
    subst (λ (s : WireStep). Says above (codes "pass") fields s) (ok_is (Pass k.0 t.0) step t.2)
    (pass_says above a.0.front l.0 k.0 t.0 fields a.0.rest (conn_is above a.0.front k.0 bound k.1) (times_are above l.0 t.0 g.0 t.1) (next_is fields a.0 a.1) (last_is a.0.rest l.0 l.1))

run_says : (above : WireAbove) (field : List ℕ) (times : ℕ) (fields : Option (List ℕ)) → AreTimes above field times → fields ≡ Some field → Says above (codes "run") fields (Run times)
run_says above field times fields fit is = (fit.0, fit.1, rw (is, fit.2) refl)

run_found : (above : WireAbove) (fields : Option (List ℕ)) (step : WireStep) → read_run above fields ≡ Ok step → Says above (codes "run") fields step
unfolding read_run
run_found above fields step e =
    let l = bind_ok (last_field fields) _ step e in
    let g = gate (fit_with above.times (times_of l.0)) why.Many _ step l.2 in
    let t = bind_ok (times_of l.0) _ step g.1 in
    subst (λ (s : WireStep). Says above (codes "run") fields s) (ok_is (Run t.0) step t.2) (run_says above l.0 t.0 fields (times_are above l.0 t.0 g.0 t.1) (last_is fields l.0 l.1))

-- ---- what a line says

common_found : (above : WireAbove) (words : Cut) (step : WireStep) → read_common above words ≡ Ok step → Says above words.front words.rest step
unfolding read_common
common_found above words step e =
    let a = bind_ok (read_words above.names words) _ step e in
    let w = words_found above.names words a.0 a.1 in
    subst (λ (s : WireStep). Says above words.front words.rest s) (ok_is (Common a.0) step a.2) (w.0, refl, w.1)

-- the first word is the one that was compared
at_word : (above : WireAbove) (word front : List ℕ) (rest : Option (List ℕ)) (step : WireStep) → bytes_eq front word ≡ true → Says above word rest step → Says above front rest step
at_word above word front rest step same says = subst (λ (w : List ℕ). Says above w rest step) (sym ((bytes_eq-Decides front word).0 same)) says

moves_found : (above : WireAbove) (words : Cut) (step : WireStep) → AreCountable above → read_moves above words ≡ Ok step → Says above words.front words.rest step
unfolding read_moves
moves_found above words step bound e =
    elim (chosen (bytes_eq words.front (codes "up")) (read_up above words.rest) _ step e) [
      | inl p ↦ at_word above (codes "up") words.front words.rest step p.0 (up_found above words.rest step bound p.1)
      | inr p ↦ elim (chosen (bytes_eq words.front (codes "down")) (read_down above words.rest) _ step p.1) [
        | inl q ↦ at_word above (codes "down") words.front words.rest step q.0 (down_found above words.rest step bound q.1)
        | inr q ↦ elim (chosen (bytes_eq words.front (codes "cut")) (read_cut above words.rest) _ step q.1) [
          | inl r ↦ at_word above (codes "cut") words.front words.rest step r.0 (cut_found above words.rest step bound r.1)
          | inr r ↦ elim (chosen (bytes_eq words.front (codes "pass")) (read_pass above words.rest) _ step r.1) [
            | inl t ↦ at_word above (codes "pass") words.front words.rest step t.0 (pass_found above words.rest step bound t.1)
            | inr t ↦ elim (chosen (bytes_eq words.front (codes "run")) (read_run above words.rest) _ step t.1) [
              | inl u ↦ at_word above (codes "run") words.front words.rest step u.0 (run_found above words.rest step u.1)
              | inr u ↦ common_found above words step u.1
            ]
          ]
        ]
      ]
    ]

wire_words_found : (above : WireAbove) (words : Cut) (step : WireStep) → AreCountable above → read_wire_words above words ≡ Ok step → Says above words.front words.rest step
unfolding read_wire_words
wire_words_found above words step bound e =
    elim (chosen (bytes_eq words.front (codes "dial")) (read_dial above words.rest) _ step e) [
      | inl p ↦ at_word above (codes "dial") words.front words.rest step p.0 (dial_found above words.rest step p.1)
      | inr p ↦ elim (chosen (bytes_eq words.front (codes "forget")) (read_forget above words.rest) _ step p.1) [
        | inl q ↦ at_word above (codes "forget") words.front words.rest step q.0 (forget_found above words.rest step q.1)
        | inr q ↦ elim (chosen (bytes_eq words.front (codes "close")) (read_close above words.rest) _ step q.1) [
          | inl r ↦ at_word above (codes "close") words.front words.rest step r.0 (close_found above words.rest step r.1)
          | inr r ↦ moves_found above words step bound r.1
        ]
      ]
    ]

-- ---- lines

-- so many connections can be counted behind a line that may stand
pub countable_on : (above : WireAbove) (step : WireStep) → AreCountable above → are_few above step ≡ true → AreCountable (above_by step above)
countable_on above (Common step) bound few = bound
countable_on above (Dial device) bound few = grind (arith, nat_tests)
countable_on above (Forget device) bound few = bound
countable_on above (Close device) bound few = bound
countable_on above (Up conn count) bound few = bound
countable_on above (Down conn count) bound few = bound
countable_on above (CutOff conn up down) bound few = bound
countable_on above (Pass conn times) bound few = bound
countable_on above (Run times) bound few = bound

-- a line that was read
record IsRead (above : WireAbove) (n : ℕ) (piece : Piece) (step : WireStep) : Type 0 where
  ended : piece.ended ≡ true
  few : n ≤ 100000
  stands : IsTrue (may_run above step)
  fits : IsTrue (are_few above step)
  spelled : piece.bytes ≡ wire_step_text step

wire_line_found : (above : WireAbove) (n : ℕ) (piece : Piece) (step : WireStep) → AreCountable above → read_wire_line above n piece ≡ Ok step → IsRead above n piece step
unfolding read_wire_line
wire_line_found above n piece step bound e =
    let a = gate (piece.ended && is_utf8 piece.bytes) why.Ending _ step e in
    let b = gate (nat_le n 100000) why.Many _ step a.1 in
    let w = wire_words_found above (cut_of piece.bytes) step bound b.1 in
    record {
      ended = (and_parts piece.ended (is_utf8 piece.bytes) a.0).0;
      few = leb-true n 100000 b.0;
      stands = w.0;
      fits = w.1;
      spelled = sym (w.2 ∙ cut_back piece.bytes);
    }

abbrev pub wire_line_text : WireLine → List ℕ
wire_line_text line = wire_step_text line.step ++ 10 ∷ []

front_ok : (line : WireLine) (r : Result (List WireLine) ScheduleFault) (lines : List WireLine) → with_wire_front line r ≡ Ok lines → (rest : List WireLine) × (r ≡ Ok rest) × (line ∷ rest ≡ lines)
front_ok line (Ok rest) lines e = (rest, refl, cc)
front_ok line (Err d) lines e = absurd cc

either_ok : (r : Result WireStep LineWhy) (f : WireStep → Result (List WireLine) ScheduleFault) (n : ℕ) (lines : List WireLine) → either f (λ reason. Err (BadLine n reason)) r ≡ Ok lines → (step : WireStep) × (r ≡ Ok step) × (f step ≡ Ok lines)
either_ok (Ok step) f n lines e = (step, refl, e)
either_ok (Err reason) f n lines e = absurd cc

abbrev all_read : List WireLine → Result (List WireLine) ScheduleFault
all_read lines = Ok lines

all_is : (x y : List WireLine) → all_read x ≡ all_read y → x ≡ y
all_is x y e = cc

pub wire_lines_found : (above : WireAbove) (n : ℕ) (pieces : List Piece) (lines : List WireLine) → AreCountable above → read_wire_lines above n pieces ≡ Ok lines
    → AreWireLines above n lines × (text_of_pieces pieces ≡ flat_map wire_line_text lines)
wire_lines_found above n [] lines bound e =
    subst (λ (ls : List WireLine). AreWireLines above n ls × ([] ≡ flat_map wire_line_text ls)) (all_is [] lines e) (tt, refl)
wire_lines_found above n (piece ∷ pieces) lines bound e =
    let a = either_ok (read_wire_line above n piece) _ n lines e in
    let step = a.0 in
    let b = front_ok (record { number = n; step = step }) (read_wire_lines (above_by step above) (n + 1) pieces) lines a.2 in
    let line = wire_line_found above n piece step bound a.1 in
    let others = wire_lines_found (above_by step above) (n + 1) pieces b.0 (countable_on above step bound line.fits) b.1 in
    let first : text_of_pieces (piece ∷ pieces) ≡ wire_step_text step ++ 10 ∷ text_of_pieces pieces = ended_text piece (wire_step_text step) (text_of_pieces pieces) line.ended line.spelled in
    let whole : text_of_pieces (piece ∷ pieces) ≡ flat_map wire_line_text (record { number = n; step = step } ∷ b.0) =
    first ∙ ap (λ (xs : List ℕ). wire_step_text step ++ 10 ∷ xs) others.1 ∙ sym (append_assoc (wire_step_text step) (10 ∷ []) (flat_map wire_line_text b.0)) ∙ sym (flat_map-cons wire_line_text (record { number = n; step = step }) b.0) in
    subst (λ (ls : List WireLine). AreWireLines above n ls × (text_of_pieces (piece ∷ pieces) ≡ flat_map wire_line_text ls)) b.2
    ((refl, line.few, line.stands, line.fits, others.0), whole)
