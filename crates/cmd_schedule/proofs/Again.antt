-- The text of a line of a direct schedule is read as that line.
use Rattle.std.proofs.Common.{◌≡◌, ℕ, zero, suc, ◌+◌, ◌≤◌, ◌<◌, Bool, true, false, eqb, leb, ltb, List, [], ◌∷◌, ◌++◌, length, Some, Result, Ok, refl, sym, ap, ◌∙◌, inl, inr, arith, codes, append_assoc}
use Rattle.std.specs.Prelude.{not, ◌&&◌, ◌||◌, nat_lt, nat_le}
use Rattle.std.specs.Fmt.{decimal}
use Rattle.std.specs.List.{flat_map, list_all, AllByRecursion}
use Rattle.std.specs.Str.{bytes_eq, is_utf8, IsUtf8, IsAscii, NonePass, chars}
use Rattle.std.proofs.lemmas.Bool.{and_parts, and_from, or_cases, leb-true, le-leb, eqb-false, false≢true}
use Rattle.std.proofs.lemmas.Bool.Decides.{nat_tests}
use Rattle.std.proofs.lemmas.List.Concat.{flat_map-cons}
use Rattle.std.proofs.lemmas.Slice.Eq.{bytes_eq-Decides}
use Rattle.std.proofs.lemmas.Str.{IsUtf8-append, IsUtf8-from_ascii, IsUtf8-from_is_utf8, is_utf8-from_IsUtf8, encodes-chars}
use Rattle.std.proofs.lemmas.Str.Pattern.{NoCharPasses-char}
use Rattle.cmd_schedule.specs.Grammar.{is_lower, is_digit, is_name, is_text, is_text_character, Declared, declared_by, may_stand, AreLines, step_text}
use Rattle.base_io.specs.Names.{is_among}
use Rattle.cmd_schedule.specs.Reading.{pieces_of, cut_of, not_empty, next_field, last_field, rest_field, is_number, read_account, read_device, read_message, read_say, read_private, read_catchup, read_tick, read_words, read_line, read_lines}
use Rattle.cmd_schedule.specs.declared.schedule.Line.{Line}
use Rattle.cmd_schedule.specs.declared.fault.ScheduleFault.{ScheduleFault}
use Rattle.cmd_schedule.specs.declared.schedule.Step.{Step}
use Rattle.cmd_schedule.specs.declared.schedule.Step.TheVariants.{Account, Device, Say, Private, Catchup, Tick}
use Rattle.cmd_schedule.specs.declared.schedule.TheConstants.{MOST_TICK}
use Rattle.cmd_schedule.proofs.Found.{line_text}
use Rattle.cmd_schedule.proofs.Numbers.{decimal_number, number_again, number_digits}
use Rattle.cmd_schedule.proofs.Words.{Lacks, cut_after, piece_after}
use Rattle.base_lemmas.proofs.Lists.{list_all-weaker}

-- ---- bytes that pass a test

differs_by : (p : ℕ → Bool) (b c : ℕ) → p b ≡ true → p c ≡ false → b ≡ c → ⊥
differs_by p b c holds fails same = false≢true (sym fails ∙ ap p (sym same) ∙ holds)

lacks_from_all : (p : ℕ → Bool) (c : ℕ) (bytes : List ℕ) → p c ≡ false → list_all p bytes ≡ true → Lacks c bytes
lacks_from_all p c [] fails h i lt = absurd (omega arith)
lacks_from_all p c (b ∷ bytes) fails h zero lt = λ same. absurd (differs_by p b c (and_parts (p b) (list_all p bytes) h).0 fails same)
lacks_from_all p c (b ∷ bytes) fails h (suc i) lt = lacks_from_all p c bytes fails (and_parts (p b) (list_all p bytes) h).1 i (omega arith)

ascii_from_all : (p : ℕ → Bool) → ((c : ℕ) → p c ≡ true → c < 128) → (bytes : List ℕ) → list_all p bytes ≡ true → IsAscii bytes
ascii_from_all p low [] h i = omega arith
ascii_from_all p low (b ∷ bytes) h zero = low b (and_parts (p b) (list_all p bytes) h).0
ascii_from_all p low (b ∷ bytes) h (suc i) = ascii_from_all p low bytes (and_parts (p b) (list_all p bytes) h).1 i

pub lacks_append : (c : ℕ) (xs ys : List ℕ) → Lacks c xs → Lacks c ys → Lacks c (xs ++ ys)
lacks_append c [] ys hx hy i lt = hy i lt
lacks_append c (x ∷ xs) ys hx hy zero lt = hx 0 (omega arith)
lacks_append c (x ∷ xs) ys hx hy (suc i) lt = lacks_append c xs ys (λ j l. hx (suc j) (omega arith)) hy i (omega arith)

lacks_cons : (c x : ℕ) (xs : List ℕ) → eqb x c ≡ false → Lacks c xs → Lacks c (x ∷ xs)
lacks_cons c x xs other h zero lt = eqb-false x c other
lacks_cons c x xs other h (suc i) lt = h i (omega arith)

-- what a line may be written with: no LF, and UTF-8
pub record IsPlain (bytes : List ℕ) : Type 0 where
  pub lacks : Lacks 10 bytes
  pub spelled : IsUtf8 bytes

pub plain_append : (xs ys : List ℕ) → IsPlain xs → IsPlain ys → IsPlain (xs ++ ys)
plain_append xs ys hx hy = record { lacks = lacks_append 10 xs ys hx.lacks hy.lacks; spelled = IsUtf8-append xs ys hx.spelled hy.spelled }

-- a printable ASCII character
abbrev is_plain_ascii : ℕ → Bool
is_plain_ascii c = leb 32 c && ltb c 128

pub plain_from_all : (bytes : List ℕ) → list_all is_plain_ascii bytes ≡ true → IsPlain bytes
plain_from_all bytes h = record {
  lacks = lacks_from_all is_plain_ascii 10 bytes refl h;
  spelled = IsUtf8-from_ascii bytes (ascii_from_all is_plain_ascii (λ c e. grind (arith, nat_tests)) bytes h);
}

-- ---- names and texts

abbrev is_name_byte : ℕ → Bool
is_name_byte d = is_lower d || is_digit d

-- a field without spaces
pub record IsWord (bytes : List ℕ) : Type 0 where
  pub some : not_empty bytes ≡ true
  pub lacks : Lacks 32 bytes
  pub whole : list_all (λ b. not (eqb b 32)) bytes ≡ true
  pub plain : IsPlain bytes

pub word_from_all : (p : ℕ → Bool) → ((c : ℕ) → p c ≡ true → (33 ≤ c) × (c < 128)) → (bytes : List ℕ) → not_empty bytes ≡ true → list_all p bytes ≡ true → IsWord bytes
word_from_all p range bytes some h = record {
  some = some;
  lacks = lacks_from_all (λ b. not (eqb b 32)) 32 bytes refl (list_all-weaker p (λ b. not (eqb b 32)) (λ c e. let r = range c e in grind (arith, nat_tests)) bytes h);
  whole = list_all-weaker p (λ b. not (eqb b 32)) (λ c e. let r = range c e in grind (arith, nat_tests)) bytes h;
  plain = plain_from_all bytes (list_all-weaker p is_plain_ascii (λ c e. let r = range c e in grind (arith, nat_tests)) bytes h);
}

name_range : (c : ℕ) → is_name_byte c ≡ true → (33 ≤ c) × (c < 128)
name_range c e = grind (arith, nat_tests)

digit_range : (c : ℕ) → is_digit c ≡ true → (33 ≤ c) × (c < 128)
digit_range c e = grind (arith, nat_tests)

lower_byte : (c : ℕ) → is_lower c ≡ true → is_name_byte c ≡ true
lower_byte c e = rw e refl

name_bytes : (name : List ℕ) → is_name name ≡ true → list_all is_name_byte name ≡ true
name_bytes [] h = refl
name_bytes (c ∷ cs) h =
    let outer = and_parts (is_lower c && leb (length cs) 31) (list_all is_name_byte cs) h in
    let inner = and_parts (is_lower c) (leb (length cs) 31) outer.0 in
    and_from (is_name_byte c) (list_all is_name_byte cs) (lower_byte c inner.0) outer.1

name_not_empty : (name : List ℕ) → is_name name ≡ true → not_empty name ≡ true
name_not_empty [] h = absurd (false≢true h)
name_not_empty (c ∷ cs) h = refl

pub name_word : (name : List ℕ) → is_name name ≡ true → IsWord name
name_word name h = word_from_all is_name_byte name_range name (name_not_empty name h) (name_bytes name h)

pub digits_word : (bytes : List ℕ) → is_number bytes ≡ true → IsWord bytes
digits_word bytes h = word_from_all is_digit digit_range bytes (number_digits bytes h).0 (number_digits bytes h).1

text_byte : (c : ℕ) → is_text_character c ≡ true → eqb c 10 ≡ false
text_byte c e = grind (arith, nat_tests)

none_are : (cs : List ℕ) → list_all is_text_character cs ≡ true → NonePass (λ d. eqb d 10) cs
none_are [] h = tt
none_are (c ∷ cs) h =
    let parts = and_parts (is_text_character c) (list_all is_text_character cs) h in
    (text_byte c parts.0, none_are cs parts.1)

text_plain : (text : List ℕ) → is_text text ≡ true → IsPlain text
text_plain text h =
    let outer = and_parts _ (list_all is_text_character (chars text)) h in
    let inner = and_parts _ (is_utf8 text) outer.0 in
    let spelled = IsUtf8-from_is_utf8 text inner.1 in
    record {
      lacks = λ i lt. NoCharPasses-char 10 text i (chars text, encodes-chars text spelled, none_are (chars text) outer.1) (omega arith) lt;
      spelled = spelled;
    }

text_not_empty : (text : List ℕ) → is_text text ≡ true → not_empty text ≡ true
text_not_empty [] h = absurd (false≢true h)
text_not_empty (b ∷ bytes) h = refl

-- ---- what is declared

abbrev pub AreNames : List (List ℕ) → Type 0
AreNames names = AllByRecursion (λ name. is_name name ≡ true) names

pub record AreDeclared (above : Declared) : Type 0 where
  pub accounts : AreNames above.accounts
  pub devices : AreNames above.devices

names_push : (names : List (List ℕ)) (name : List ℕ) → AreNames names → is_name name ≡ true → AreNames (names ++ name ∷ [])
names_push [] name h is = (is, tt)
names_push (other ∷ names) name h is = (h.0, names_push names name h.1 is)

pub among_is_name : (name : List ℕ) (names : List (List ℕ)) → AreNames names → is_among name names ≡ true → is_name name ≡ true
among_is_name name [] h e = absurd (false≢true e)
among_is_name name (other ∷ names) h e =
    elim (or_cases (bytes_eq name other) (is_among name names) e) [
      | inl same ↦ rw ((bytes_eq-Decides name other).0 same) h.0
      | inr later ↦ among_is_name name names h.1 later
    ]

-- ---- fields

pub next_again : (word rest : List ℕ) → IsWord word → next_field (Some (word ++ 32 ∷ rest)) ≡ Ok (record { front = word; rest = Some rest })
next_again word rest h = rw (cut_after word rest h.lacks, h.some) refl

pub last_again : (word : List ℕ) → IsWord word → last_field (Some word) ≡ Ok word
last_again word h = rw (h.some, h.whole) refl

rest_again : (text : List ℕ) → not_empty text ≡ true → rest_field (Some text) ≡ Ok text
rest_again text h = rw h refl

-- ---- what a line says

pub record IsAgain (above : Declared) (step : Step) : Type 0 where
  pub read : read_words above (cut_of (step_text step)) ≡ Ok step
  pub plain : IsPlain (step_text step)
  pub declared : AreDeclared (declared_by step above)

account_again : (above : Declared) (name : List ℕ) → AreDeclared above → may_stand above (Account name) ≡ true → IsAgain above (Account name)
unfolding read_words read_account
account_again above name known h =
    let outer = and_parts _ (not (is_among name above.accounts)) h in
    let inner = and_parts (nat_lt (length above.accounts) 100) (is_name name) outer.0 in
    let word = name_word name inner.1 in
    record {
      read = rw (inner.0, last_again name word, inner.1, outer.1) refl;
      plain = plain_append (codes "account ") name (plain_from_all (codes "account ") refl) word.plain;
      declared = record { accounts = names_push above.accounts name known.accounts inner.1; devices = known.devices };
    }

device_again : (above : Declared) (name account : List ℕ) → AreDeclared above → may_stand above (Device name account) ≡ true → IsAgain above (Device name account)
unfolding read_words read_device
device_again above name account known h =
    let outer = and_parts _ (is_among account above.accounts) h in
    let middle = and_parts _ (not (is_among name above.devices)) outer.0 in
    let inner = and_parts (nat_lt (length above.devices) 100) (is_name name) middle.0 in
    let word = name_word name inner.1 in
    let owner = name_word account (among_is_name account above.accounts known.accounts outer.1) in
    record {
      read = rw (inner.0, next_again name account word, last_again account owner, inner.1, middle.1, outer.1) refl;
      plain = plain_append (codes "device " ++ name) (32 ∷ account) (plain_append (codes "device ") name (plain_from_all (codes "device ") refl) word.plain) (plain_append (32 ∷ []) account (plain_from_all (32 ∷ []) refl) owner.plain);
      declared = record { accounts = known.accounts; devices = names_push above.devices name known.devices inner.1 };
    }

-- a message that may be sent is read again
record IsMessage (above : Declared) (device to text : List ℕ) : Type 0 where
  read : read_message above (Some (device ++ 32 ∷ (to ++ 32 ∷ text))) ≡ Ok (device, to, text)
  plain : IsPlain (device ++ 32 ∷ (to ++ 32 ∷ text))

message_again : (above : Declared) (device to text : List ℕ) → AreDeclared above → (is_among device above.devices && is_name to && is_text text) ≡ true → IsMessage above device to text
unfolding read_message
message_again above device to text known h =
    let outer = and_parts _ (is_text text) h in
    let inner = and_parts (is_among device above.devices) (is_name to) outer.0 in
    let speaker = name_word device (among_is_name device above.devices known.devices inner.0) in
    let word = name_word to inner.1 in
    record {
      read = rw (next_again device (to ++ 32 ∷ text) speaker, next_again to text word, rest_again text (text_not_empty text outer.1), inner.0, inner.1, outer.1) refl;
      plain = plain_append device (32 ∷ (to ++ 32 ∷ text)) speaker.plain (plain_append (32 ∷ []) (to ++ 32 ∷ text) (plain_from_all (32 ∷ []) refl)
          (plain_append to (32 ∷ text) word.plain (plain_append (32 ∷ []) text (plain_from_all (32 ∷ []) refl) (text_plain text outer.1))));
    }

say_again : (above : Declared) (device to text : List ℕ) → AreDeclared above → may_stand above (Say device to text) ≡ true → IsAgain above (Say device to text)
unfolding read_words read_say
say_again above device to text known h =
    let message = message_again above device to text known h in
    let regrouped : step_text (Say device to text) ≡ codes "say " ++ (device ++ 32 ∷ (to ++ 32 ∷ text)) = ap (λ (xs : List ℕ). codes "say " ++ xs) (append_assoc device (32 ∷ to) (32 ∷ text)) in
    record {
      read = ap (λ (xs : List ℕ). read_words above (cut_of xs)) regrouped ∙ rw message.read refl;
      plain = rw regrouped (plain_append (codes "say ") (device ++ 32 ∷ (to ++ 32 ∷ text)) (plain_from_all (codes "say ") refl) message.plain);
      declared = known;
    }

private_again : (above : Declared) (device to text : List ℕ) → AreDeclared above → may_stand above (Private device to text) ≡ true → IsAgain above (Private device to text)
unfolding read_words read_private
private_again above device to text known h =
    let message = message_again above device to text known h in
    let regrouped : step_text (Private device to text) ≡ codes "private " ++ (device ++ 32 ∷ (to ++ 32 ∷ text)) = ap (λ (xs : List ℕ). codes "private " ++ xs) (append_assoc device (32 ∷ to) (32 ∷ text)) in
    record {
      read = ap (λ (xs : List ℕ). read_words above (cut_of xs)) regrouped ∙ rw message.read refl;
      plain = rw regrouped (plain_append (codes "private ") (device ++ 32 ∷ (to ++ 32 ∷ text)) (plain_from_all (codes "private ") refl) message.plain);
      declared = known;
    }

catchup_again : (above : Declared) (device : List ℕ) (most : ℕ) → AreDeclared above → may_stand above (Catchup device most) ≡ true → IsAgain above (Catchup device most)
unfolding read_words read_catchup
catchup_again above device most known h =
    let outer = and_parts _ (nat_le most 100) h in
    let inner = and_parts (is_among device above.devices) (nat_le 1 most) outer.0 in
    let speaker = name_word device (among_is_name device above.devices known.devices inner.0) in
    let high : most ≤ 100 = leb-true most 100 outer.1 in
    let number = number_again 1 100 most (leb-true 1 most inner.1) high (omega arith) in
    let field = digits_word (decimal most) (decimal_number most (omega arith)) in
    record {
      read = rw (next_again device (decimal most) speaker, last_again (decimal most) field, inner.0, number) refl;
      plain = plain_append (codes "catchup " ++ device) (32 ∷ decimal most) (plain_append (codes "catchup ") device (plain_from_all (codes "catchup ") refl) speaker.plain) (plain_append (32 ∷ []) (decimal most) (plain_from_all (32 ∷ []) refl) field.plain);
      declared = known;
    }

tick_again : (above : Declared) (ms : ℕ) → AreDeclared above → may_stand above (Tick ms) ≡ true → IsAgain above (Tick ms)
unfolding read_words read_tick
tick_again above ms known h =
    let high : ms ≤ MOST_TICK = leb-true ms MOST_TICK h in
    let number = number_again 0 MOST_TICK ms (omega arith) high (omega arith) in
    let field = digits_word (decimal ms) (decimal_number ms (omega arith)) in
    record {
      read = rw (last_again (decimal ms) field, number) refl;
      plain = plain_append (codes "tick ") (decimal ms) (plain_from_all (codes "tick ") refl) field.plain;
      declared = known;
    }

pub step_again : (above : Declared) (step : Step) → AreDeclared above → may_stand above step ≡ true → IsAgain above step
step_again above (Account name) known h = account_again above name known h
step_again above (Device name account) known h = device_again above name account known h
step_again above (Say device to text) known h = say_again above device to text known h
step_again above (Private device to text) known h = private_again above device to text known h
step_again above (Catchup device most) known h = catchup_again above device most known h
step_again above (Tick ms) known h = tick_again above ms known h

line_again : (above : Declared) (n : ℕ) (step : Step) → n ≤ 100000 → IsAgain above step → read_line above n (record { bytes = step_text step; ended = true }) ≡ Ok step
unfolding read_line
line_again above n step few h = rw (is_utf8-from_IsUtf8 (step_text step) h.plain.spelled, le-leb n 100000 few) h.read

-- ---- lines

abbrev read_all : List Line → Result (List Line) ScheduleFault
read_all lines = Ok lines

pub lines_again : (above : Declared) (n : ℕ) (lines : List Line) → AreDeclared above → AreLines above n lines → read_lines above n (pieces_of (flat_map line_text lines)) ≡ Ok lines
lines_again above n [] known h = refl
lines_again above n (line ∷ lines) known h =
    let again = step_again above line.step known h.2 in
    let parts : pieces_of (flat_map line_text (line ∷ lines)) ≡ record { bytes = step_text line.step; ended = true } ∷ pieces_of (flat_map line_text lines) =
    ap (λ (xs : List ℕ). pieces_of xs) (flat_map-cons line_text line lines ∙ append_assoc (step_text line.step) (10 ∷ []) (flat_map line_text lines))
    ∙ piece_after (step_text line.step) (flat_map line_text lines) again.plain.lacks in
    let read = line_again above n line.step h.1 again in
    let others = lines_again (declared_by line.step above) (n + 1) lines again.declared h.3 in
    let same : record { number = n; step = line.step } ≡ line = ap (λ (k : ℕ). record { number = k; step = line.step }) (sym h.0) in
    rw (parts, read, others) (ap (λ (l : Line). read_all (l ∷ lines)) same)
