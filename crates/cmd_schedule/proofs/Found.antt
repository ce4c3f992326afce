-- What the lines of a direct schedule are read as may stand there, and is what they say.
use Rattle.std.proofs.Common.{◌≡◌, ℕ, ◌+◌, ◌≤◌, Bool, true, false, cond, eqb, List, [], ◌∷◌, ◌++◌, length, Option, Some, None, Result, Ok, Err, refl, sym, ap, subst, ◌∙◌, inl, inr, codes, append_assoc, arith}
use Rattle.std.specs.Prelude.{not, ◌&&◌, ◌⊎◌, IsTrue, nat_lt, nat_le}
use Rattle.std.specs.Fmt.{decimal}
use Rattle.std.specs.List.{flat_map, list_all}
use Rattle.std.specs.Str.{bytes_eq, is_utf8}
use Rattle.std.proofs.lemmas.Bool.{cases_Bool, and_parts, and_from, eqb-true, leb-true, le-leb}
use Rattle.std.proofs.lemmas.List.Concat.{flat_map-cons}
use Rattle.std.proofs.lemmas.Slice.Eq.{bytes_eq-Decides}
use Rattle.cmd_schedule.specs.Grammar.{is_name, is_text, Declared, declared_by, may_stand, AreLines, step_text}
use Rattle.base_io.specs.Names.{is_among}
use Rattle.cmd_schedule.specs.Reading.{Piece, Cut, ◌>>=◌, wants, joined, pieces_of, cut_of, not_empty, next_field, last_field, rest_field, number_within, read_account, read_device, read_message, read_say, read_private, read_catchup, read_tick, read_words, read_line, with_front, either, read_lines}
use Rattle.cmd_schedule.specs.declared.schedule.Line.{Line}
use Rattle.cmd_schedule.specs.declared.fault.LineWhy.{LineWhy}
use Rattle.cmd_schedule.specs.declared.fault.ScheduleFault.{ScheduleFault}
use Rattle.cmd_schedule.specs.declared.fault.ScheduleFault.TheVariants.{BadLine}
use Rattle.cmd_schedule.specs.declared.schedule.Step.{Step}
use Rattle.cmd_schedule.specs.declared.schedule.Step.TheVariants.{Account, Device, Say, Private, Catchup, Tick}
use Rattle.cmd_schedule.specs.declared.schedule.TheConstants.{MOST_TICK}
use Rattle.cmd_schedule.proofs.Numbers.{number_found}
use Rattle.cmd_schedule.specs.declared.fault.LineWhy.TheVariants as why

-- ---- steps that did not fail

pub bind_ok : {A B : Type 0} (r : Result A LineWhy) (f : A → Result B LineWhy) (y : B) → (r >>= f) ≡ Ok y → (x : A) × (r ≡ Ok x) × (f x ≡ Ok y)
bind_ok (Ok x) f y e = (x, refl, e)
bind_ok (Err d) f y e = absurd cc

pub gate : {B : Type 0} (holds : Bool) (reason : LineWhy) (r : Result B LineWhy) (y : B) → (wants holds reason >>= λ _. r) ≡ Ok y → (holds ≡ true) × (r ≡ Ok y)
gate true reason r y e = (refl, e)
gate false reason r y e = absurd cc

abbrev pub done : {A : Type 0} → A → Result A LineWhy
done x = Ok x

pub ok_is : {A : Type 0} (x y : A) → done x ≡ done y → x ≡ y
ok_is x y e = cc

pub kept : {A : Type 0} (b : Bool) (x y : A) (reason : LineWhy) → cond b (done x) (Err reason) ≡ Ok y → (b ≡ true) × (x ≡ y)
kept true x y reason e = (refl, cc)
kept false x y reason e = absurd cc

pub chosen : {A : Type 0} (b : Bool) (x y : Result A LineWhy) (z : A) → cond b x y ≡ Ok z → ((b ≡ true) × (x ≡ Ok z)) ⊎ ((b ≡ false) × (y ≡ Ok z))
chosen true x y z e = inl (refl, e)
chosen false x y z e = inr (refl, e)

-- ---- fields

-- a field, and what follows it behind a space
abbrev pub with_rest : List ℕ → Option (List ℕ) → List ℕ
with_rest front None = front
with_rest front (Some rest) = front ++ 32 ∷ rest

at_rest : (b : ℕ) (front : List ℕ) (rest : Option (List ℕ)) → with_rest (b ∷ front) rest ≡ b ∷ with_rest front rest
at_rest b front None = refl
at_rest b front (Some rest) = refl

pub cut_back : (bytes : List ℕ) → with_rest (cut_of bytes).front (cut_of bytes).rest ≡ bytes
cut_back [] = refl
cut_back (b ∷ bytes) =
    elim (cases_Bool (eqb b 32)) [
      | inl e ↦ rw e (ap (λ (x : ℕ). x ∷ bytes) (sym (eqb-true b 32 e)))
      | inr e ↦ rw e (at_rest b (cut_of bytes).front (cut_of bytes).rest ∙ ap (λ (xs : List ℕ). b ∷ xs) (cut_back bytes))
    ]

pub next_is : (fields : Option (List ℕ)) (cut : Cut) → next_field fields ≡ Ok cut → fields ≡ Some (with_rest cut.front cut.rest)
next_is None cut e = absurd cc
next_is (Some bytes) cut e =
    let k = kept (not_empty (cut_of bytes).front) (cut_of bytes) cut why.Shape e in
    ap (λ (xs : List ℕ). Some xs) (sym (ap (λ (c : Cut). with_rest c.front c.rest) (sym k.1) ∙ cut_back bytes))

pub last_is : (fields : Option (List ℕ)) (field : List ℕ) → last_field fields ≡ Ok field → fields ≡ Some field
last_is None field e = absurd cc
last_is (Some bytes) field e = ap (λ (xs : List ℕ). Some xs) (kept (not_empty bytes && list_all (λ b. not (eqb b 32)) bytes) bytes field why.Shape e).1

rest_is : (fields : Option (List ℕ)) (field : List ℕ) → rest_field fields ≡ Ok field → fields ≡ Some field
rest_is None field e = absurd cc
rest_is (Some bytes) field e = ap (λ (xs : List ℕ). Some xs) (kept (not_empty bytes) bytes field why.Shape e).1

-- ---- what a line says

-- the step may stand, and the line of this first word and these fields is its text
abbrev pub Says : Declared → List ℕ → Option (List ℕ) → Step → Type 0
Says above word fields step = IsTrue (may_stand above step) × (step_text step ≡ with_rest word fields)

account_says : (above : Declared) (name : List ℕ) (fields : Option (List ℕ)) → nat_lt (length above.accounts) 100 ≡ true → is_name name ≡ true → not (is_among name above.accounts) ≡ true
    → fields ≡ Some name → Says above (codes "account") fields (Account name)
account_says above name fields few named once is = (and_from _ _ (and_from _ _ few named) once, rw is refl)

account_found : (above : Declared) (fields : Option (List ℕ)) (step : Step) → read_account above fields ≡ Ok step → Says above (codes "account") fields step
unfolding read_account
account_found above fields step e =
    let a = gate (nat_lt (length above.accounts) 100) why.Many _ step e in
    let b = bind_ok (last_field fields) _ step a.1 in
    let c = gate (is_name b.0) why.Name _ step b.2 in
    let d = gate (not (is_among b.0 above.accounts)) why.Twice _ step c.1 in
    subst (λ (s : Step). Says above (codes "account") fields s) (ok_is (Account b.0) step d.1)
    (account_says above b.0 fields a.0 c.0 d.0 (last_is fields b.0 b.1))

device_says : (above : Declared) (name account : List ℕ) (fields rest : Option (List ℕ)) → nat_lt (length above.devices) 100 ≡ true → is_name name ≡ true → not (is_among name above.devices) ≡ true → is_among account above.accounts ≡ true
    → fields ≡ Some (with_rest name rest) → rest ≡ Some account → Says above (codes "device") fields (Device name account)
device_says above name account fields rest few named once known is after = (and_from _ _ (and_from _ _ (and_from _ _ few named) once) known, rw (is, after) refl)

device_found : (above : Declared) (fields : Option (List ℕ)) (step : Step) → read_device above fields ≡ Ok step → Says above (codes "device") fields step
unfolding read_device
device_found above fields step e =
    let a = gate (nat_lt (length above.devices) 100) why.Many _ step e in
    let b = bind_ok (next_field fields) _ step a.1 in
    let l = bind_ok (last_field b.0.rest) _ step b.2 in
    let c = gate (is_name b.0.front) why.Name _ step l.2 in
    let d = gate (not (is_among b.0.front above.devices)) why.Twice _ step c.1 in
    let k = gate (is_among l.0 above.accounts) why.Unknown _ step d.1 in
    subst (λ (s : Step). Says above (codes "device") fields s) (ok_is (Device b.0.front l.0) step k.1)
    (device_says above b.0.front l.0 fields b.0.rest a.0 c.0 d.0 k.0 (next_is fields b.0 b.1) (last_is b.0.rest l.0 l.1))

-- a message that may be sent, and the fields that are its text
abbrev IsMessage : Declared → Option (List ℕ) → List ℕ × List ℕ × List ℕ → Type 0
IsMessage above fields message =
    IsTrue (is_among message.0 above.devices && is_name message.1 && is_text message.2) × (fields ≡ Some (message.0 ++ 32 ∷ (message.1 ++ 32 ∷ message.2)))

message_says : (above : Declared) (device to text : List ℕ) (fields rest last : Option (List ℕ)) → is_among device above.devices ≡ true → is_name to ≡ true → is_text text ≡ true
    → fields ≡ Some (with_rest device rest) → rest ≡ Some (with_rest to last) → last ≡ Some text → IsMessage above fields (device, to, text)
message_says above device to text fields rest last known named spelled is after then = (and_from _ _ (and_from _ _ known named) spelled, rw (is, after, then) refl)

message_found : (above : Declared) (fields : Option (List ℕ)) (message : List ℕ × List ℕ × List ℕ) → read_message above fields ≡ Ok message → IsMessage above fields message
unfolding read_message
message_found above fields message e =
    let a = bind_ok (next_field fields) _ message e in
    let b = bind_ok (next_field a.0.rest) _ message a.2 in
    let l = bind_ok (rest_field b.0.rest) _ message b.2 in
    let c = gate (is_among a.0.front above.devices) why.Unknown _ message l.2 in
    let d = gate (is_name b.0.front) why.Name _ message c.1 in
    let k = gate (is_text l.0) why.Text _ message d.1 in
    subst (λ (m : List ℕ × List ℕ × List ℕ). IsMessage above fields m) (ok_is (a.0.front, b.0.front, l.0) message k.1)
    (message_says above a.0.front b.0.front l.0 fields a.0.rest b.0.rest c.0 d.0 k.0 (next_is fields a.0 a.1) (next_is a.0.rest b.0 b.1) (rest_is b.0.rest l.0 l.1))

say_says : (above : Declared) (device to text : List ℕ) (fields : Option (List ℕ)) → IsMessage above fields (device, to, text) → Says above (codes "say") fields (Say device to text)
say_says above device to text fields is = (is.0, rw is.1 (ap (λ (xs : List ℕ). codes "say " ++ xs) (append_assoc device (32 ∷ to) (32 ∷ text))))

say_found : (above : Declared) (fields : Option (List ℕ)) (step : Step) → read_say above fields ≡ Ok step → Says above (codes "say") fields step
unfolding read_say
say_found above fields step e =
    let a = bind_ok (read_message above fields) _ step e in
    subst (λ (s : Step). Says above (codes "say") fields s) (ok_is (Say a.0.0 a.0.1 a.0.2) step a.2)
    (say_says above a.0.0 a.0.1 a.0.2 fields (message_found above fields a.0 a.1))

private_says : (above : Declared) (device to text : List ℕ) (fields : Option (List ℕ)) → IsMessage above fields (device, to, text) → Says above (codes "private") fields (Private device to text)
private_says above device to text fields is = (is.0, rw is.1 (ap (λ (xs : List ℕ). codes "private " ++ xs) (append_assoc device (32 ∷ to) (32 ∷ text))))

private_found : (above : Declared) (fields : Option (List ℕ)) (step : Step) → read_private above fields ≡ Ok step → Says above (codes "private") fields step
unfolding read_private
private_found above fields step e =
    let a = bind_ok (read_message above fields) _ step e in
    subst (λ (s : Step). Says above (codes "private") fields s) (ok_is (Private a.0.0 a.0.1 a.0.2) step a.2)
    (private_says above a.0.0 a.0.1 a.0.2 fields (message_found above fields a.0 a.1))

catchup_says : (above : Declared) (device field : List ℕ) (most : ℕ) (fields rest : Option (List ℕ)) → is_among device above.devices ≡ true → 1 ≤ most → most ≤ 100
    → fields ≡ Some (with_rest device rest) → rest ≡ Some field → field ≡ decimal most → Says above (codes "catchup") fields (Catchup device most)
catchup_says above device field most fields rest known low high is after number = (and_from _ _ (and_from _ _ known (le-leb 1 most low)) (le-leb most 100 high), rw (is, after, number) refl)

catchup_found : (above : Declared) (fields : Option (List ℕ)) (step : Step) → read_catchup above fields ≡ Ok step → Says above (codes "catchup") fields step
unfolding read_catchup
catchup_found above fields step e =
    let a = bind_ok (next_field fields) _ step e in
    let l = bind_ok (last_field a.0.rest) _ step a.2 in
    let c = gate (is_among a.0.front above.devices) why.Unknown _ step l.2 in
    let m = bind_ok (number_within 1 100 l.0) _ step c.1 in
    let n = number_found 1 100 l.0 m.0 (omega arith) m.1 in
    subst (λ (s : Step). Says above (codes "catchup") fields s) (ok_is (Catchup a.0.front m.0) step m.2)
    (catchup_says above a.0.front l.0 m.0 fields a.0.rest c.0 n.0 n.1 (next_is fields a.0 a.1) (last_is a.0.rest l.0 l.1) n.2)

tick_says : (above : Declared) (field : List ℕ) (ms : ℕ) (fields : Option (List ℕ)) → ms ≤ MOST_TICK → fields ≡ Some field → field ≡ decimal ms → Says above (codes "tick") fields (Tick ms)
tick_says above field ms fields high is number = (le-leb ms MOST_TICK high, rw (is, number) refl)

tick_found : (above : Declared) (fields : Option (List ℕ)) (step : Step) → read_tick fields ≡ Ok step → Says above (codes "tick") fields step
unfolding read_tick
tick_found above fields step e =
    let l = bind_ok (last_field fields) _ step e in
    let m = bind_ok (number_within 0 MOST_TICK l.0) _ step l.2 in
    let n = number_found 0 MOST_TICK l.0 m.0 (omega arith) m.1 in
    subst (λ (s : Step). Says above (codes "tick") fields s) (ok_is (Tick m.0) step m.2)
    (tick_says above l.0 m.0 fields n.1 (last_is fields l.0 l.1) n.2)

-- the first word is the one that was compared
at_word : (above : Declared) (word front : List ℕ) (rest : Option (List ℕ)) (step : Step) → bytes_eq front word ≡ true → Says above word rest step → Says above front rest step
at_word above word front rest step same says = subst (λ (w : List ℕ). Says above w rest step) (sym ((bytes_eq-Decides front word).0 same)) says

pub words_found : (above : Declared) (words : Cut) (step : Step) → read_words above words ≡ Ok step → Says above words.front words.rest step
unfolding read_words
words_found above words step e =
    elim (chosen (bytes_eq words.front (codes "account")) (read_account above words.rest) _ step e) [
      | inl p ↦ at_word above (codes "account") words.front words.rest step p.0 (account_found above words.rest step p.1)
      | inr p ↦ elim (chosen (bytes_eq words.front (codes "device")) (read_device above words.rest) _ step p.1) [
        | inl q ↦ at_word above (codes "device") words.front words.rest step q.0 (device_found above words.rest step q.1)
        | inr q ↦ elim (chosen (bytes_eq words.front (codes "say")) (read_say above words.rest) _ step q.1) [
          | inl r ↦ at_word above (codes "say") words.front words.rest step r.0 (say_found above words.rest step r.1)
          | inr r ↦ elim (chosen (bytes_eq words.front (codes "private")) (read_private above words.rest) _ step r.1) [
            | inl t ↦ at_word above (codes "private") words.front words.rest step t.0 (private_found above words.rest step t.1)
            | inr t ↦ elim (chosen (bytes_eq words.front (codes "catchup")) (read_catchup above words.rest) _ step t.1) [
              | inl u ↦ at_word above (codes "catchup") words.front words.rest step u.0 (catchup_found above words.rest step u.1)
              | inr u ↦ elim (chosen (bytes_eq words.front (codes "tick")) (read_tick words.rest) _ step u.1) [
                | inl v ↦ at_word above (codes "tick") words.front words.rest step v.0 (tick_found above words.rest step v.1)
                | inr v ↦ absurd cc
              ]
            ]
          ]
        ]
      ]
    ]

-- a line that was read
record IsRead (above : Declared) (n : ℕ) (piece : Piece) (step : Step) : Type 0 where
  ended : piece.ended ≡ true
  few : n ≤ 100000
  stands : IsTrue (may_stand above step)
  spelled : piece.bytes ≡ step_text step

line_found : (above : Declared) (n : ℕ) (piece : Piece) (step : Step) → read_line above n piece ≡ Ok step → IsRead above n piece step
unfolding read_line
line_found above n piece step e =
    let a = gate (piece.ended && is_utf8 piece.bytes) why.Ending _ step e in
    let b = gate (nat_le n 100000) why.Many _ step a.1 in
    let w = words_found above (cut_of piece.bytes) step b.1 in
    record {
      ended = (and_parts piece.ended (is_utf8 piece.bytes) a.0).0;
      few = leb-true n 100000 b.0;
      stands = w.0;
      spelled = sym (w.1 ∙ cut_back piece.bytes);
    }

-- ---- lines

abbrev pub text_of_piece : Piece → List ℕ → List ℕ
text_of_piece piece rest = piece.bytes ++ cond piece.ended (10 ∷ rest) rest

abbrev pub text_of_pieces : List Piece → List ℕ
text_of_pieces [] = []
text_of_pieces (piece ∷ pieces) = text_of_piece piece (text_of_pieces pieces)

joined_back : (b : ℕ) (pieces : List Piece) → text_of_pieces (joined b pieces) ≡ b ∷ text_of_pieces pieces
joined_back b [] = refl
joined_back b (piece ∷ pieces) = refl

pub pieces_back : (text : List ℕ) → text_of_pieces (pieces_of text) ≡ text
pieces_back [] = refl
pieces_back (b ∷ bs) =
    elim (cases_Bool (eqb b 10)) [
      | inl e ↦ rw e (ap (λ (xs : List ℕ). 10 ∷ xs) (pieces_back bs) ∙ ap (λ (x : ℕ). x ∷ bs) (sym (eqb-true b 10 e)))
      | inr e ↦ rw e (joined_back b (pieces_of bs) ∙ ap (λ (xs : List ℕ). b ∷ xs) (pieces_back bs))
    ]

abbrev pub line_text : Line → List ℕ
line_text line = step_text line.step ++ 10 ∷ []

abbrev pub read_all : {A : Type 0} → A → Result A ScheduleFault
read_all x = Ok x

front_ok : (line : Line) (r : Result (List Line) ScheduleFault) (lines : List Line) → with_front line r ≡ Ok lines → (rest : List Line) × (r ≡ Ok rest) × (line ∷ rest ≡ lines)
front_ok line (Ok rest) lines e = (rest, refl, cc)
front_ok line (Err d) lines e = absurd cc

either_ok : (r : Result Step LineWhy) (f : Step → Result (List Line) ScheduleFault) (n : ℕ) (lines : List Line) → either f (λ reason. Err (BadLine n reason)) r ≡ Ok lines → (step : Step) × (r ≡ Ok step) × (f step ≡ Ok lines)
either_ok (Ok step) f n lines e = (step, refl, e)
either_ok (Err reason) f n lines e = absurd cc

pub all_is : (x y : List Line) → read_all x ≡ read_all y → x ≡ y
all_is x y e = cc

pub ended_text : (piece : Piece) (text rest : List ℕ) → piece.ended ≡ true → piece.bytes ≡ text → text_of_piece piece rest ≡ text ++ 10 ∷ rest
ended_text piece text rest e is = rw (e, is) refl

pub lines_found : (above : Declared) (n : ℕ) (pieces : List Piece) (lines : List Line) → read_lines above n pieces ≡ Ok lines → AreLines above n lines × (text_of_pieces pieces ≡ flat_map line_text lines)
lines_found above n [] lines e =
    subst (λ (ls : List Line). AreLines above n ls × ([] ≡ flat_map line_text ls)) (all_is [] lines e) (tt, refl)
lines_found above n (piece ∷ pieces) lines e =
    let a = either_ok (read_line above n piece) _ n lines e in
    let step = a.0 in
    let b = front_ok (record { number = n; step = step }) (read_lines (declared_by step above) (n + 1) pieces) lines a.2 in
    let line = line_found above n piece step a.1 in
    let others = lines_found (declared_by step above) (n + 1) pieces b.0 b.1 in
    let first : text_of_pieces (piece ∷ pieces) ≡ step_text step ++ 10 ∷ text_of_pieces pieces = ended_text piece (step_text step) (text_of_pieces pieces) line.ended line.spelled in
    let whole : text_of_pieces (piece ∷ pieces) ≡ flat_map line_text (record { number = n; step = step } ∷ b.0) =
    first ∙ ap (λ (xs : List ℕ). step_text step ++ 10 ∷ xs) others.1 ∙ sym (append_assoc (step_text step) (10 ∷ []) (flat_map line_text b.0)) ∙ sym (flat_map-cons line_text (record { number = n; step = step }) b.0) in
    subst (λ (ls : List Line). AreLines above n ls × (text_of_pieces (piece ∷ pieces) ≡ flat_map line_text ls)) b.2
    ((refl, line.few, line.stands, others.0), whole)
