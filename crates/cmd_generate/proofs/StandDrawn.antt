-- Drawn lines may stand where they stand, and so a generated schedule is in the grammar.
use Rattle.std.proofs.Common.{◌≡◌, ℕ, zero, suc, ◌+◌, ◌-◌, ◌*◌, ◌/◌, ◌%◌, ◌^◌, ◌≤◌, ◌<◌, Bool, true, false, eqb, leb, List, [], ◌∷◌, ◌++◌, length, refl, sym, ap, subst, ◌∙◌, arith, codes}
use Rattle.std.specs.Prelude.{IsTrue, Result, Ok, Err, IfOk, ◌&&◌, ◌||◌, chars, nat_le, nat_lt}
use Rattle.std.specs.Fmt.{decimal}
use Rattle.std.specs.List.{list_all}
use Rattle.std.specs.Str.{IsAscii, is_utf8}
use Rattle.std.proofs.lemmas.Bool.{and_from, and_parts, le-leb, lt-ltb}
use Rattle.std.proofs.lemmas.Bool.Decides.{nat_tests}
use Rattle.std.proofs.lemmas.Fmt.{decimal_digit, length-decimal-le}
use Rattle.std.proofs.lemmas.List.{length-append}
use Rattle.std.proofs.lemmas.Str.{IsUtf8-from_ascii, chars-encodes, encodes-IsAscii, is_utf8-from_IsUtf8}
use lib.Utf8.{low_scalar, scalar, scalars}
use Rattle.base_lemmas.proofs.Conditions.{by_test}
use Rattle.base_lemmas.proofs.Lists.{list_all-weaker}
use Rattle.base_io.specs.Names.{is_among}
use Rattle.cmd_generate.specs.Draws.{Drawn, draw, next_state}
use Rattle.cmd_generate.specs.Generated.{account_named, closing, device_named, dials_with, drawn_line, drawn_lines, drawn_of_kind, generated, generated_steps, opening, text_named}
use Rattle.cmd_generate.proofs.Dials.{dials_in, dials_more, dials_one}
use Rattle.cmd_generate.proofs.FewDials.{few_dials}
use Rattle.cmd_generate.proofs.Stand.{Stand, account_is, at, closing_stands, device_is, opening_leaves, opening_stands, stand_append, stand_lines, with_steps}
use Rattle.cmd_schedule.specs.Grammar.{is_digit, is_name, is_text, is_text_character}
use Rattle.cmd_schedule.specs.Schedules.{WireView}
use Rattle.cmd_schedule.specs.WireGrammar.{IsWireSchedule, WireAbove, above_by, are_few, is_made, may_run, nothing_above}
use Rattle.cmd_schedule.specs.declared.schedule.Count.TheVariants.{Number}
use Rattle.cmd_schedule.specs.declared.schedule.Step.TheVariants.{Say, Private, Catchup, Tick}
use Rattle.cmd_schedule.specs.declared.schedule.WireStep.{WireStep}
use Rattle.cmd_schedule.specs.declared.schedule.WireStep.TheVariants.{Common, Dial, Forget, Up, Down, Cut, Run}
use Rattle.cmd_schedule.proofs.Numbers.{decimal_number, number_digits}

-- ---- names and texts

among_device : (i d t : ℕ) → i < 6 → is_among (device_named i) (at d t).names.devices ≡ true
among_device zero d t low = rw (decimal_digit 0 (omega arith)) refl
among_device (suc zero) d t low = rw (decimal_digit 1 (omega arith)) refl
among_device (suc (suc zero)) d t low = rw (decimal_digit 2 (omega arith)) refl
among_device (suc (suc (suc zero))) d t low = rw (decimal_digit 3 (omega arith)) refl
among_device (suc (suc (suc (suc zero)))) d t low = rw (decimal_digit 4 (omega arith)) refl
among_device (suc (suc (suc (suc (suc zero))))) d t low = rw (decimal_digit 5 (omega arith)) refl
among_device (suc (suc (suc (suc (suc (suc i)))))) d t low = absurd (omega arith)

account_name : (i : ℕ) → i < 3 → is_name (account_named i) ≡ true
account_name zero low = rw (decimal_digit 0 (omega arith)) refl
account_name (suc zero) low = rw (decimal_digit 1 (omega arith)) refl
account_name (suc (suc zero)) low = rw (decimal_digit 2 (omega arith)) refl
account_name (suc (suc (suc i))) low = absurd (omega arith)

-- printable ASCII
abbrev is_printable : ℕ → Bool
is_printable c = nat_le 32 c && nat_lt c 128

ascii : (bytes : List ℕ) → list_all is_printable bytes ≡ true → IsAscii bytes
ascii [] h i = omega arith
ascii (b ∷ bytes) h zero = let p = (and_parts (is_printable b) (list_all is_printable bytes) h).0 in grind (arith, nat_tests)
ascii (b ∷ bytes) h (suc i) = ascii bytes (and_parts (is_printable b) (list_all is_printable bytes) h).1 i

ascii_scalars : (bytes : List ℕ) → IsAscii bytes → scalars bytes ≡ true
ascii_scalars [] h = refl
ascii_scalars (b ∷ bytes) h = and_from (scalar b) (scalars bytes) (low_scalar b (omega (arith, h 0))) (ascii_scalars bytes (λ i. h (suc i)))

ascii_chars : (bytes : List ℕ) → IsAscii bytes → chars bytes ≡ bytes
ascii_chars bytes h = ap chars (sym (encodes-IsAscii bytes h)) ∙ chars-encodes bytes (ascii_scalars bytes h)

digit_printable : (c : ℕ) → is_digit c ≡ true → is_printable c ≡ true
digit_printable c e = grind (arith, nat_tests)

printable_character : (c : ℕ) → is_printable c ≡ true → is_text_character c ≡ true
printable_character c e = grind (arith, nat_tests)

message_text : (i : ℕ) → i < 2 ^ 64 → is_text (text_named i) ≡ true
message_text i low =
    let bytes = text_named i in
    let digits = (number_digits (decimal i) (decimal_number i low)).1 in
    let printable : list_all is_printable bytes ≡ true = list_all-weaker is_digit is_printable digit_printable (decimal i) digits in
    let plain = ascii bytes printable in
    let short = length-decimal-le 20 i (omega arith) (omega arith) low in
    let characters : list_all is_text_character (chars bytes) ≡ true = ap (list_all is_text_character) (ascii_chars bytes plain) ∙ list_all-weaker is_printable is_text_character printable_character bytes printable in
    and_from _ (list_all is_text_character (chars bytes))
    (and_from _ (is_utf8 bytes) (and_from (nat_le 1 (length bytes)) (nat_le (length bytes) 1000) (le-leb 1 (length bytes) (omega arith)) (le-leb (length bytes) 1000 (omega (arith, short))))
    (is_utf8-from_IsUtf8 bytes (IsUtf8-from_ascii bytes plain))) characters

-- ---- drawn lines

-- a step that may stand behind so many dials and times, and what it leaves
record IsBounded (d t : ℕ) (step : WireStep) : Type 0 where
  may : may_run (at d t) step ≡ true
  few : d + dials_with step 0 ≤ 10000 → t + 1 ≤ 100000 → are_few (at d t) step ≡ true
  times : ℕ
  short : times ≤ t + 1
  next : above_by step (at d t) ≡ at (dials_with step d) times

drawn_below : (bound state : ℕ) → 0 < bound → (draw bound state).value < bound
drawn_below bound state some = omega arith

made : (d t state : ℕ) → 1 ≤ d → is_made (at d t) (1 + (draw d state).value) ≡ true
made d t state some =
    let low = drawn_below d state (omega arith) in
    and_from (nat_le 1 (1 + (draw d state).value)) (nat_le (1 + (draw d state).value) d) (le-leb 1 (1 + (draw d state).value) (omega arith)) (le-leb (1 + (draw d state).value) d (omega (arith, low)))

number_fits : (state : ℕ) → nat_le (draw 2000 state).value 4294967295 ≡ true
number_fits state = le-leb (draw 2000 state).value 4294967295 (omega (arith, drawn_below 2000 state (omega arith)))

message_may : (i d t state further : ℕ) → i < 2 ^ 64 →
    (is_among (device_named (draw 6 state).value) (at d t).names.devices && is_name (account_named (draw 3 further).value) && is_text (text_named i)) ≡ true
message_may i d t state further low =
    and_from _ (is_text (text_named i))
    (and_from (is_among (device_named (draw 6 state).value) (at d t).names.devices) (is_name (account_named (draw 3 further).value))
    (among_device (draw 6 state).value d t (drawn_below 6 state (omega arith))) (account_name (draw 3 further).value (drawn_below 3 further (omega arith))))
    (message_text i low)

say_bounded : (i d t state further : ℕ) → i < 2 ^ 64 → IsBounded d t (Common (Say (device_named (draw 6 state).value) (account_named (draw 3 further).value) (text_named i)))
say_bounded i d t state further low = record { may = message_may i d t state further low; few = λ a b. refl; times = t; short = omega arith; next = refl }

private_bounded : (i d t state further : ℕ) → i < 2 ^ 64 → IsBounded d t (Common (Private (device_named (draw 6 state).value) (account_named (draw 3 further).value) (text_named i)))
private_bounded i d t state further low = record { may = message_may i d t state further low; few = λ a b. refl; times = t; short = omega arith; next = refl }

run_bounded : (d t : ℕ) → IsBounded d t (Run 1)
run_bounded d t = record { may = refl; few = λ a b. le-leb (t + 1) 100000 b; times = t + 1; short = omega arith; next = refl }

catchup_bounded : (d t state further : ℕ) → IsBounded d t (Common (Catchup (device_named (draw 6 state).value) (1 + (draw 10 further).value)))
catchup_bounded d t state further =
    let device = among_device (draw 6 state).value d t (drawn_below 6 state (omega arith)) in
    let low = drawn_below 10 further (omega arith) in
    record {
      may = and_from _ (nat_le (1 + (draw 10 further).value) 100)
          (and_from (is_among (device_named (draw 6 state).value) (at d t).names.devices) (nat_le 1 (1 + (draw 10 further).value)) device (le-leb 1 (1 + (draw 10 further).value) (omega arith)))
          (le-leb (1 + (draw 10 further).value) 100 (omega (arith, low)));
      few = λ a b. refl;
      times = t;
      short = omega arith;
      next = refl;
    }

up_bounded : (d t state further : ℕ) → 1 ≤ d → IsBounded d t (Up (1 + (draw d state).value) (Number (draw 2000 further).value))
up_bounded d t state further some = record {
  may = and_from (is_made (at d t) (1 + (draw d state).value)) (nat_le (draw 2000 further).value 4294967295) (made d t state some) (number_fits further);
  few = λ a b. refl;
  times = t;
  short = omega arith;
  next = refl;
}

down_bounded : (d t state further : ℕ) → 1 ≤ d → IsBounded d t (Down (1 + (draw d state).value) (Number (draw 2000 further).value))
down_bounded d t state further some = record {
  may = and_from (is_made (at d t) (1 + (draw d state).value)) (nat_le (draw 2000 further).value 4294967295) (made d t state some) (number_fits further);
  few = λ a b. refl;
  times = t;
  short = omega arith;
  next = refl;
}

cut_bounded : (d t state further last : ℕ) → 1 ≤ d → IsBounded d t (Cut (1 + (draw d state).value) (draw 2000 further).value (draw 2000 last).value)
cut_bounded d t state further last some = record {
  may = and_from _ (nat_le (draw 2000 last).value 4294967295)
      (and_from (is_made (at d t) (1 + (draw d state).value)) (nat_le (draw 2000 further).value 4294967295) (made d t state some) (number_fits further)) (number_fits last);
  few = λ a b. refl;
  times = t;
  short = omega arith;
  next = refl;
}

dial_bounded : (d t state : ℕ) → IsBounded d t (Dial (device_named (draw 6 state).value))
dial_bounded d t state = record {
  may = among_device (draw 6 state).value d t (drawn_below 6 state (omega arith));
  few = λ a b. lt-ltb d 10000 (omega arith);
  times = t;
  short = omega arith;
  next = refl;
}

forget_bounded : (d t state : ℕ) → IsBounded d t (Forget (device_named (draw 6 state).value))
forget_bounded d t state = record {
  may = among_device (draw 6 state).value d t (drawn_below 6 state (omega arith));
  few = λ a b. refl;
  times = t;
  short = omega arith;
  next = refl;
}

tick_bounded : (d t state : ℕ) → IsBounded d t (Common (Tick (draw 100000 state).value))
tick_bounded d t state = record {
  may = le-leb (draw 100000 state).value 1000000000 (omega (arith, drawn_below 100000 state (omega arith)));
  few = λ a b. refl;
  times = t;
  short = omega arith;
  next = refl;
}

kind_bounded : (kind i d t state : ℕ) → 1 ≤ d → i < 2 ^ 64 → IsBounded d t (drawn_of_kind kind i d state).value
unfolding drawn_of_kind
kind_bounded kind i d t state some low =
    by_test (nat_le kind 5) (λ e. rw e (say_bounded i d t state (draw 6 state).state low)) (λ a.
    by_test (nat_le kind 7) (λ e. rw (a, e) (run_bounded d t)) (λ b.
    by_test (eqb kind 8) (λ e. rw (a, b, e) (catchup_bounded d t state (draw 6 state).state)) (λ c.
    by_test (eqb kind 9) (λ e. rw (a, b, c, e) (up_bounded d t state (draw d state).state some)) (λ f.
    by_test (eqb kind 10) (λ e. rw (a, b, c, f, e) (down_bounded d t state (draw d state).state some)) (λ g.
    by_test (eqb kind 11) (λ e. rw (a, b, c, f, g, e) (cut_bounded d t state (draw d state).state (draw 2000 (draw d state).state).state some)) (λ h.
    by_test (eqb kind 12) (λ e. rw (a, b, c, f, g, h, e) (dial_bounded d t state)) (λ j.
    by_test (eqb kind 13) (λ e. rw (a, b, c, f, g, h, j, e) (forget_bounded d t state)) (λ k.
    by_test (eqb kind 14) (λ e. rw (a, b, c, f, g, h, j, k, e) (tick_bounded d t state)) (λ l.
    rw (a, b, c, f, g, h, j, k, l) (private_bounded i d t state (draw 6 state).state low))))))))))

line_bounded : (i d t state : ℕ) → 1 ≤ d → i < 2 ^ 64 → IsBounded d t (drawn_line i d state).value
unfolding drawn_line
line_bounded i d t state some low = kind_bounded (draw 16 state).value i d t (draw 16 state).state some low

-- so many drawn lines may stand, and what they leave
record DoStand (d t n : ℕ) (steps : List WireStep) : Type 0 where
  stand : Stand (at d t) steps
  times : ℕ
  short : times ≤ t + n
  leave : with_steps (at d t) steps ≡ at (d + dials_in steps) times

one_stands : (d t n : ℕ) (step : WireStep) (steps : List WireStep) (bounded : IsBounded d t step) → d + dials_in (step ∷ steps) ≤ 10000 → t + suc n ≤ 100000 → DoStand (dials_with step d) bounded.times n steps
    → DoStand d t (suc n) (step ∷ steps)
one_stands d t n step steps bounded few short following =
    let many : dials_with step d + dials_in steps ≡ d + dials_in (step ∷ steps) = omega (arith, dials_more step d) in
    record {
      stand = (bounded.may, bounded.few (omega arith) (omega arith), subst (λ (above : WireAbove). Stand above steps) (sym bounded.next) following.stand);
      times = following.times;
      short = omega (arith, following.short, bounded.short);
      leave = ap (λ (above : WireAbove). with_steps above steps) bounded.next ∙ following.leave ∙ ap (λ (k : ℕ). at k following.times) many;
    }

drawn_stand : (n i d t state : ℕ) → 1 ≤ d → i + n < 2 ^ 64 → d + dials_in (drawn_lines n i d state) ≤ 10000 → t + n ≤ 100000 → DoStand d t n (drawn_lines n i d state)
drawn_stand zero i d t state some low few short = record { stand = tt; times = t; short = omega arith; leave = ap (λ (k : ℕ). at k t) (omega arith) }
drawn_stand (suc n) i d t state some low few short =
    let line = drawn_line i d state in
    let bounded = line_bounded i d t state some (omega arith) in
    let more = dials_more line.value d in
    let following = drawn_stand n (i + 1) (dials_with line.value d) bounded.times line.state (omega (arith, more)) (omega arith) (omega (arith, more, few)) (omega (arith, bounded.short, short)) in
    one_stands d t n line.value (drawn_lines n (i + 1) (dials_with line.value d) line.state) bounded few short following

drawn_length : (n i d state : ℕ) → length (drawn_lines n i d state) ≡ n
drawn_length zero i d state = refl
drawn_length (suc n) i d state = let line = drawn_line i d state in ap suc (drawn_length n (i + 1) (dials_with line.value d) line.state)

pub generated_stands : (number size : ℕ) → size ≤ 10000 → IsWireSchedule (generated number size)
generated_stands number size most =
    let drawn = drawn_lines size 0 6 number in
    let few = few_dials size 0 6 number most in
    let middle = drawn_stand size 0 6 12 number (omega arith) (omega arith) (omega (arith, few)) (omega arith) in
    let last = closing_stands (6 + dials_in drawn) middle.times (omega (arith, few)) (omega (arith, middle.short)) in
    let following : Stand (at 6 12) (drawn ++ closing) = stand_append (at 6 12) drawn closing middle.stand (subst (λ (above : WireAbove). Stand above closing) (sym middle.leave) last) in
    let all = stand_append nothing_above opening (drawn ++ closing) opening_stands (subst (λ (above : WireAbove). Stand above (drawn ++ closing)) (sym opening_leaves) following) in
    let size_is : length (generated_steps number size) ≤ 10030 = omega (arith, length-append opening (drawn ++ closing), length-append drawn closing, drawn_length size 0 6 number) in
    record { keeps = refl; lines = stand_lines nothing_above 2 (generated_steps number size) (omega (arith, size_is)) all }

-- what is answered, if it is the generated schedule
pub grammar_of : {E : Type 0} (number size : ℕ) (r : Result WireView E) → size ≤ 10000 → IfOk r (λ s. s ≡ generated number size) → IfOk r IsWireSchedule
grammar_of number size (Ok s) most made = subst (λ (w : WireView). IsWireSchedule w) (sym made) (generated_stands number size most)
grammar_of number size (Err e) most made = tt
