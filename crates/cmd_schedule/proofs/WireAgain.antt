-- The text of a line of a wire schedule is read as that line.
use Rattle.std.proofs.Common.{◌≡◌, ℕ, ◌+◌, ◌≤◌, ◌<◌, true, false, inl, inr, List, [], ◌∷◌, ◌++◌, Some, Ok, Result, refl, sym, ap, ◌∙◌, codes, append_assoc, arith}
use Rattle.std.specs.Prelude.{◌&&◌, nat_lt, nat_le}
use Rattle.std.specs.Fmt.{decimal}
use Rattle.std.specs.List.{flat_map}
use Rattle.std.proofs.lemmas.Bool.{and_parts, cases_Bool, false≢true, le-leb, leb-true}
use Rattle.std.proofs.lemmas.Bool.Decides.{nat_tests}
use Rattle.std.proofs.lemmas.Slice.Eq.{bytes_eq-Decides}
use Rattle.std.specs.Str.{bytes_eq}
use Rattle.std.proofs.lemmas.List.Concat.{flat_map-cons}
use Rattle.std.proofs.lemmas.Str.{is_utf8-from_IsUtf8}
use Rattle.base_io.specs.Names.{is_among}
use Rattle.cmd_schedule.specs.Grammar.{is_lower, may_stand}
use Rattle.cmd_schedule.specs.Reading.{cut_of, is_number, pieces_of, read_words}
use Rattle.cmd_schedule.specs.WireGrammar.{WireAbove, AreWireLines, above_by, are_few, are_times, count_text, is_count, is_made, may_run, wire_step_text}
use Rattle.cmd_schedule.specs.WireReading.{conn_of, count_of, read_close, read_common, read_cut, read_device_name, read_dial, read_down, read_forget, read_moved, read_moves, read_pass, read_run, read_up, read_wire_line, read_wire_lines, read_wire_words, times_of}
use Rattle.cmd_schedule.specs.declared.fault.ScheduleFault.{ScheduleFault}
use Rattle.cmd_schedule.specs.declared.schedule.Count.{Count}
use Rattle.cmd_schedule.specs.declared.schedule.Count.TheVariants.{Number, All}
use Rattle.cmd_schedule.specs.declared.schedule.Step.{Step}
use Rattle.cmd_schedule.specs.declared.schedule.Step.TheVariants as steps
use Rattle.cmd_schedule.specs.declared.schedule.TheConstants.{MOST_DIALS, MOST_NUMBER, MOST_TIMES, MOST_TIMES_TOGETHER}
use Rattle.cmd_schedule.specs.declared.schedule.WireLine.{WireLine}
use Rattle.cmd_schedule.specs.declared.schedule.WireStep.{WireStep}
use Rattle.cmd_schedule.specs.declared.schedule.WireStep.TheVariants.{Common, Dial, Forget, Close, Up, Down, Cut, Pass, Run}
use Rattle.cmd_schedule.proofs.Again.{AreDeclared, IsPlain, IsWord, among_is_name, word_from_all, digits_word, last_again, name_word, next_again, plain_append, plain_from_all, step_again}
use Rattle.cmd_schedule.proofs.Numbers.{decimal_number, number_again}
use Rattle.cmd_schedule.proofs.WireFound.{AreCountable, countable_on, wire_line_text}
use Rattle.cmd_schedule.proofs.Words.{piece_after}

-- a line that is read again
record IsWireAgain (above : WireAbove) (step : WireStep) : Type 0 where
  read : read_wire_words above (cut_of (wire_step_text step)) ≡ Ok step
  plain : IsPlain (wire_step_text step)
  declared : AreDeclared (above_by step above).names

-- what is known of what stands above a line
record IsKnown (above : WireAbove) : Type 0 where
  names : AreDeclared above.names
  countable : AreCountable above

spaced : (xs ys : List ℕ) → IsPlain xs → IsPlain ys → IsPlain (xs ++ 32 ∷ ys)
spaced xs ys hx hy = plain_append xs (32 ∷ ys) hx (plain_append (32 ∷ []) ys (plain_from_all (32 ∷ []) refl) hy)

-- ---- a line that direct schedules have too

-- its first word is none of a wire schedule alone, so that it is read as there
common_words : (above : WireAbove) (step : Step) → read_wire_words above (cut_of (wire_step_text (Common step))) ≡ read_common above (cut_of (wire_step_text (Common step)))
unfolding read_wire_words read_moves
common_words above (steps.Account name) = refl
common_words above (steps.Device name account) = refl
common_words above (steps.Say device to text) = refl
common_words above (steps.Private device to text) = refl
common_words above (steps.Catchup device most) = refl
common_words above (steps.Tick ms) = refl

common_read : (above : WireAbove) (step : Step) → read_words above.names (cut_of (wire_step_text (Common step))) ≡ Ok step → read_common above (cut_of (wire_step_text (Common step))) ≡ Ok (Common step)
unfolding read_common
common_read above step h = rw h refl

common_again : (above : WireAbove) (step : Step) → IsKnown above → may_stand above.names step ≡ true → IsWireAgain above (Common step)
common_again above step known h =
    let again = step_again above.names step known.names h in
    record { read = common_words above step ∙ common_read above step again.read; plain = again.plain; declared = again.declared }

-- ---- lines with a device

device_again : (above : WireAbove) (device : List ℕ) → AreDeclared above.names → is_among device above.names.devices ≡ true → read_device_name above (Some device) ≡ Ok device
unfolding read_device_name
device_again above device known h = rw (last_again device (name_word device (among_is_name device above.names.devices known.devices h)), h) refl

dial_again : (above : WireAbove) (device : List ℕ) → IsKnown above → is_among device above.names.devices ≡ true → nat_lt above.dials MOST_DIALS ≡ true → IsWireAgain above (Dial device)
unfolding read_wire_words read_dial
dial_again above device known h few =
    let word = name_word device (among_is_name device above.names.devices known.names.devices h) in
    record {
      read = rw (few, device_again above device known.names h) refl;
      plain = plain_append (codes "dial ") device (plain_from_all (codes "dial ") refl) word.plain;
      declared = known.names;
    }

forget_again : (above : WireAbove) (device : List ℕ) → IsKnown above → is_among device above.names.devices ≡ true → IsWireAgain above (Forget device)
unfolding read_wire_words read_forget
forget_again above device known h =
    let word = name_word device (among_is_name device above.names.devices known.names.devices h) in
    record {
      read = rw (device_again above device known.names h) refl;
      plain = plain_append (codes "forget ") device (plain_from_all (codes "forget ") refl) word.plain;
      declared = known.names;
    }

close_again : (above : WireAbove) (device : List ℕ) → IsKnown above → is_among device above.names.devices ≡ true → IsWireAgain above (Close device)
unfolding read_wire_words read_close
close_again above device known h =
    let word = name_word device (among_is_name device above.names.devices known.names.devices h) in
    record {
      read = rw (device_again above device known.names h) refl;
      plain = plain_append (codes "close ") device (plain_from_all (codes "close ") refl) word.plain;
      declared = known.names;
    }

-- ---- connections, counts and times

number_word : (n : ℕ) → n ≤ MOST_NUMBER → IsWord (decimal n)
number_word n low = digits_word (decimal n) (decimal_number n (omega arith))

-- a connection that was made above is read again
record IsConn (above : WireAbove) (conn : ℕ) : Type 0 where
  read : conn_of above.dials (decimal conn) ≡ Ok conn
  word : IsWord (decimal conn)

conn_again : (above : WireAbove) (conn : ℕ) → AreCountable above → is_made above conn ≡ true → IsConn above conn
conn_again above conn bound h =
    let parts = and_parts (nat_le 1 conn) (nat_le conn above.dials) h in
    let high : conn ≤ above.dials = leb-true conn above.dials parts.1 in
    record {
      read = rw (number_again 1 above.dials conn (leb-true 1 conn parts.0) high (omega (arith, bound))) refl;
      word = number_word conn (omega (arith, bound));
    }

-- a count is read again
record IsCount (count : Count) : Type 0 where
  read : count_of (count_text count) ≡ Ok count
  word : IsWord (count_text count)

all_word : IsWord (codes "all")
all_word = word_from_all is_lower lower_range (codes "all") refl refl
  where
    lower_range : (c : ℕ) → is_lower c ≡ true → (33 ≤ c) × (c < 128)
    lower_range c e = grind (arith, nat_tests)

-- digits are no word of letters
no_word : (n : ℕ) → n ≤ MOST_NUMBER → bytes_eq (decimal n) (codes "all") ≡ false
no_word n low =
    elim (cases_Bool (bytes_eq (decimal n) (codes "all"))) [
      | inl same ↦ absurd (false≢true (ap is_number (sym ((bytes_eq-Decides (decimal n) (codes "all")).0 same)) ∙ decimal_number n (omega arith)))
      | inr differs ↦ differs
    ]

count_again : (count : Count) → is_count count ≡ true → IsCount count
count_again (Number n) h =
    let low : n ≤ MOST_NUMBER = leb-true n MOST_NUMBER h in
    record { read = rw (no_word n low, number_again 0 MOST_NUMBER n (omega arith) low (omega arith)) refl; word = number_word n low }
count_again All h = record { read = refl; word = all_word }

-- times are read again
record AreTimesAgain (times : ℕ) : Type 0 where
  read : times_of (decimal times) ≡ Ok times
  word : IsWord (decimal times)

times_again : (times : ℕ) → are_times times ≡ true → AreTimesAgain times
times_again times h =
    let parts = and_parts (nat_le 1 times) (nat_le times MOST_TIMES) h in
    let high : times ≤ MOST_TIMES = leb-true times MOST_TIMES parts.1 in
    record {
      read = number_again 1 MOST_TIMES times (leb-true 1 times parts.0) high (omega arith);
      word = number_word times (omega arith);
    }

-- ---- lines with a connection

moved_again : (above : WireAbove) (conn : ℕ) (count : Count) → IsConn above conn → IsCount count → read_moved above (Some (decimal conn ++ 32 ∷ count_text count)) ≡ Ok (conn, count)
unfolding read_moved
moved_again above conn count made counted =
    rw (next_again (decimal conn) (count_text count) made.word, last_again (count_text count) counted.word, made.read, counted.read) refl

up_again : (above : WireAbove) (conn : ℕ) (count : Count) → IsKnown above → is_made above conn && is_count count ≡ true → IsWireAgain above (Up conn count)
unfolding read_wire_words read_moves read_up
up_again above conn count known h =
    let parts = and_parts (is_made above conn) (is_count count) h in
    let made = conn_again above conn known.countable parts.0 in
    let counted = count_again count parts.1 in
    record {
      read = rw (moved_again above conn count made counted) refl;
      plain = spaced (codes "up " ++ decimal conn) (count_text count) (plain_append (codes "up ") (decimal conn) (plain_from_all (codes "up ") refl) made.word.plain) counted.word.plain;
      declared = known.names;
    }

down_again : (above : WireAbove) (conn : ℕ) (count : Count) → IsKnown above → is_made above conn && is_count count ≡ true → IsWireAgain above (Down conn count)
unfolding read_wire_words read_moves read_down
down_again above conn count known h =
    let parts = and_parts (is_made above conn) (is_count count) h in
    let made = conn_again above conn known.countable parts.0 in
    let counted = count_again count parts.1 in
    record {
      read = rw (moved_again above conn count made counted) refl;
      plain = spaced (codes "down " ++ decimal conn) (count_text count) (plain_append (codes "down ") (decimal conn) (plain_from_all (codes "down ") refl) made.word.plain) counted.word.plain;
      declared = known.names;
    }

cut_read : (above : WireAbove) (conn up down : ℕ) → IsConn above conn → up ≤ MOST_NUMBER → down ≤ MOST_NUMBER → read_cut above (Some (decimal conn ++ 32 ∷ (decimal up ++ 32 ∷ decimal down))) ≡ Ok (Cut conn up down)
unfolding read_cut
cut_read above conn up down made first second =
    rw (
      next_again (decimal conn) (decimal up ++ 32 ∷ decimal down) made.word,
      next_again (decimal up) (decimal down) (number_word up first),
      last_again (decimal down) (number_word down second),
      made.read,
      number_again 0 MOST_NUMBER up (omega arith) first (omega arith),
      number_again 0 MOST_NUMBER down (omega arith) second (omega arith),
    ) refl

cut_words : (above : WireAbove) (rest : List ℕ) → read_wire_words above (cut_of (codes "cut " ++ rest)) ≡ read_cut above (Some rest)
unfolding read_wire_words read_moves
cut_words above rest = refl

cut_again : (above : WireAbove) (conn up down : ℕ) → IsKnown above → is_made above conn && nat_le up MOST_NUMBER && nat_le down MOST_NUMBER ≡ true → IsWireAgain above (Cut conn up down)
cut_again above conn up down known h =
    let outer = and_parts _ (nat_le down MOST_NUMBER) h in
    let inner = and_parts (is_made above conn) (nat_le up MOST_NUMBER) outer.0 in
    let made = conn_again above conn known.countable inner.0 in
    let first = leb-true up MOST_NUMBER inner.1 in
    let second = leb-true down MOST_NUMBER outer.1 in
    let regrouped : wire_step_text (Cut conn up down) ≡ codes "cut " ++ (decimal conn ++ 32 ∷ (decimal up ++ 32 ∷ decimal down)) =
    ap (λ (xs : List ℕ). codes "cut " ++ xs) (append_assoc (decimal conn) (32 ∷ decimal up) (32 ∷ decimal down)) in
    record {
      read = ap (λ (xs : List ℕ). read_wire_words above (cut_of xs)) regrouped ∙ cut_words above (decimal conn ++ 32 ∷ (decimal up ++ 32 ∷ decimal down)) ∙ cut_read above conn up down made first second;
      plain = spaced ((codes "cut " ++ decimal conn) ++ 32 ∷ decimal up) (decimal down)
          (spaced (codes "cut " ++ decimal conn) (decimal up) (plain_append (codes "cut ") (decimal conn) (plain_from_all (codes "cut ") refl) made.word.plain) (number_word up first).plain)
          (number_word down second).plain;
      declared = known.names;
    }

pass_again : (above : WireAbove) (conn times : ℕ) → IsKnown above → is_made above conn && are_times times ≡ true → nat_le (above.times + times) MOST_TIMES_TOGETHER ≡ true → IsWireAgain above (Pass conn times)
unfolding read_wire_words read_moves read_pass
pass_again above conn times known h fit =
    let parts = and_parts (is_made above conn) (are_times times) h in
    let made = conn_again above conn known.countable parts.0 in
    let often = times_again times parts.1 in
    record {
      read = rw (next_again (decimal conn) (decimal times) made.word, last_again (decimal times) often.word, often.read, fit, made.read) refl;
      plain = spaced (codes "pass " ++ decimal conn) (decimal times) (plain_append (codes "pass ") (decimal conn) (plain_from_all (codes "pass ") refl) made.word.plain) often.word.plain;
      declared = known.names;
    }

run_again : (above : WireAbove) (times : ℕ) → IsKnown above → are_times times ≡ true → nat_le (above.times + times) MOST_TIMES_TOGETHER ≡ true → IsWireAgain above (Run times)
unfolding read_wire_words read_moves read_run
run_again above times known h fit =
    let often = times_again times h in
    record {
      read = rw (last_again (decimal times) often.word, often.read, fit) refl;
      plain = plain_append (codes "run ") (decimal times) (plain_from_all (codes "run ") refl) often.word.plain;
      declared = known.names;
    }

wire_step_again : (above : WireAbove) (step : WireStep) → IsKnown above → may_run above step ≡ true → are_few above step ≡ true → IsWireAgain above step
wire_step_again above (Common step) known h few = common_again above step known h
wire_step_again above (Dial device) known h few = dial_again above device known h few
wire_step_again above (Forget device) known h few = forget_again above device known h
wire_step_again above (Close device) known h few = close_again above device known h
wire_step_again above (Up conn count) known h few = up_again above conn count known h
wire_step_again above (Down conn count) known h few = down_again above conn count known h
wire_step_again above (Cut conn up down) known h few = cut_again above conn up down known h
wire_step_again above (Pass conn times) known h few = pass_again above conn times known h few
wire_step_again above (Run times) known h few = run_again above times known h few

-- ---- lines

wire_line_again : (above : WireAbove) (n : ℕ) (step : WireStep) → n ≤ 100000 → IsWireAgain above step → read_wire_line above n (record { bytes = wire_step_text step; ended = true }) ≡ Ok step
unfolding read_wire_line
wire_line_again above n step few h = rw (is_utf8-from_IsUtf8 (wire_step_text step) h.plain.spelled, le-leb n 100000 few) h.read

abbrev all_read : List WireLine → Result (List WireLine) ScheduleFault
all_read lines = Ok lines

pub wire_lines_again : (above : WireAbove) (n : ℕ) (lines : List WireLine) → AreDeclared above.names → AreCountable above → AreWireLines above n lines
    → read_wire_lines above n (pieces_of (flat_map wire_line_text lines)) ≡ Ok lines
wire_lines_again above n [] names bound h = refl
wire_lines_again above n (line ∷ lines) names bound h =
    let again = wire_step_again above line.step (record { names = names; countable = bound }) h.2 h.3 in
    let parts : pieces_of (flat_map wire_line_text (line ∷ lines)) ≡ record { bytes = wire_step_text line.step; ended = true } ∷ pieces_of (flat_map wire_line_text lines) =
    ap (λ (xs : List ℕ). pieces_of xs) (flat_map-cons wire_line_text line lines ∙ append_assoc (wire_step_text line.step) (10 ∷ []) (flat_map wire_line_text lines))
    ∙ piece_after (wire_step_text line.step) (flat_map wire_line_text lines) again.plain.lacks in
    let read = wire_line_again above n line.step h.1 again in
    let others = wire_lines_again (above_by line.step above) (n + 1) lines again.declared (countable_on above line.step bound h.3) h.4 in
    let same : record { number = n; step = line.step } ≡ line = ap (λ (k : ℕ). record { number = k; step = line.step }) (sym h.0) in
    rw (parts, read, others) (ap (λ (l : WireLine). all_read (l ∷ lines)) same)
