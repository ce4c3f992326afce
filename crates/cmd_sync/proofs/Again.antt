-- What a text says is read.
use Rattle.std.proofs.Common.{◌≡◌, ◌≢◌, ℕ, zero, suc, ◌+◌, ◌<◌, ◌≤◌, Bool, true, false, eqb, List, [], ◌∷◌, ◌++◌, length, get_or, Some, None, Result, Ok, Err, refl, sym, ap, ◌∙◌, arith, codes}
use Rattle.std.specs.Prelude.{not, ◌&&◌, nat_le, is_some, is_none}
use Rattle.std.specs.Fmt.{decimal}
use Rattle.std.specs.List.{list_all}
use Rattle.std.specs.Str.{is_utf8}
use Rattle.std.proofs.lemmas.Bool.{and_parts, and_from, eq-eqb, false≢true, leb-true}
use Rattle.std.proofs.lemmas.Bool.Decides.{nat_tests}
use Rattle.base_lemmas.proofs.Lists.{list_all-weaker}
use Rattle.im_jid.specs.Normal.{normal}
use Rattle.cmd_schedule.proofs.Numbers.{decimal_number, number_again, number_digits}
use Rattle.cmd_schedule.proofs.Words.{Lacks, cut_after, piece_after}
use Rattle.cmd_schedule.specs.Grammar.{is_digit, is_text}
use Rattle.cmd_schedule.specs.Reading.{Piece, cut_of, last_field, next_field, not_empty, pieces_of, rest_field}
use Rattle.cmd_sync.specs.ScriptReading.{address_in, fields_after, read_catch_up, read_first, read_say, read_step, read_steps, read_user, read_words, script_reading}
use Rattle.cmd_sync.specs.Scripts.{IsScript, Says, ScriptView, SpellsAddress, SpellsStep, SpellsSteps, SpellsUser, is_account, is_field, is_line, is_password, is_password_byte, is_resource, may_do, may_log_in}
use Rattle.cmd_sync.specs.declared.script_fault.ScriptFault.{ScriptFault}
use Rattle.cmd_sync.specs.declared.script.Step.{Step}
use Rattle.cmd_sync.specs.declared.script.Step.TheVariants.{Say, CatchUp}
use Rattle.cmd_sync.specs.declared.script.User.{User}

-- a line that is ended
abbrev pub ended_line : List ℕ → Piece
ended_line text = record { bytes = text; ended = true }

lacks_from : (c : ℕ) (bytes : List ℕ) → list_all (λ b. not (eqb b c)) bytes ≡ true → Lacks c bytes
lacks_from c [] h i lt = absurd (omega arith)
lacks_from c (b ∷ bytes) h zero lt = λ same. absurd (false≢true (sym (ap not (eq-eqb b c same)) ∙ (and_parts (not (eqb b c)) (list_all (λ x. not (eqb x c)) bytes) h).0))
lacks_from c (b ∷ bytes) h (suc i) lt = lacks_from c bytes (and_parts (not (eqb b c)) (list_all (λ x. not (eqb x c)) bytes) h).1 i (omega arith)

-- ---- fields

next_again : (word rest : List ℕ) → is_field word ≡ true → next_field (Some (word ++ 32 ∷ rest)) ≡ Ok (record { front = word; rest = Some rest })
next_again word rest h =
    let parts = and_parts (not_empty word) (list_all (λ b. not (eqb b 32)) word) h in
    rw (cut_after word rest (lacks_from 32 word parts.1), parts.0) refl

last_again : (word : List ℕ) → is_field word ≡ true → last_field (Some word) ≡ Ok word
last_again word h = rw h refl

address_again : (field address : List ℕ) → normal field ≡ Ok address → address_in field ≡ Ok address
address_again field address h = rw h refl

some_from : (bytes : List ℕ) → 1 ≤ length bytes → not_empty bytes ≡ true
some_from [] h = absurd (omega arith)
some_from (b ∷ bytes) h = refl

password_byte : (b : ℕ) → is_password_byte b ≡ true → not (eqb b 32) ≡ true
password_byte b e = grind (arith, nat_tests)

password_field : (text : List ℕ) → is_password text ≡ true → is_field text ≡ true
password_field text h =
    let outer = and_parts _ (list_all is_password_byte text) h in
    let inner = and_parts (nat_le 1 (length text)) (nat_le (length text) 100) outer.0 in
    and_from (not_empty text) _ (some_from text (leb-true 1 (length text) inner.0)) (list_all-weaker is_password_byte (λ b. not (eqb b 32)) password_byte text outer.1)

digit_byte : (b : ℕ) → is_digit b ≡ true → not (eqb b 32) ≡ true
digit_byte b e = grind (arith, nat_tests)

number_field : (n : ℕ) → n ≤ 100 → is_field (decimal n) ≡ true
number_field n low =
    let digits = number_digits (decimal n) (decimal_number n (omega arith)) in
    and_from (not_empty (decimal n)) _ digits.0 (list_all-weaker is_digit (λ b. not (eqb b 32)) digit_byte (decimal n) digits.1)

text_some : (text : List ℕ) → is_text text ≡ true → not_empty text ≡ true
text_some [] h = absurd (false≢true h)
text_some (b ∷ text) h = refl

-- ---- lines

user_again : (user : User) (line : List ℕ) → may_log_in user ≡ true → SpellsUser user line → read_user (ended_line line) ≡ Ok user
unfolding read_user fields_after
user_again user line may h =
    let utf8 = (and_parts (is_utf8 line) _ h.line).0 in
    let spelled : is_utf8 (codes "account " ++ (h.address ++ 32 ∷ (user.password ++ 32 ∷ user.resource))) ≡ true = ap is_utf8 (sym h.whole) ∙ utf8 in
    let outer = and_parts (is_account user.address && is_password user.password) (is_resource user.resource) may in
    let inner = and_parts (is_account user.address) (is_password user.password) outer.0 in
    ap (λ (text : List ℕ). read_user (ended_line text)) h.whole
    ∙ rw (
      spelled,
      next_again h.address (user.password ++ 32 ∷ user.resource) h.spelled.field,
      next_again user.password user.resource (password_field user.password inner.1),
      last_again user.resource h.resource,
      address_again h.address user.address h.spelled.form,
      inner.0,
      inner.1,
      outer.1,
    ) refl

say_again : (to text address : List ℕ) → is_text text ≡ true → SpellsAddress address to → read_say (Some (address ++ 32 ∷ text)) ≡ Ok (Say to text)
unfolding read_say
say_again to text address may h = rw (next_again address text h.field, text_some text may, address_again address to h.form, may) refl

catch_up_again : (max : ℕ) → nat_le 1 max && nat_le max 100 ≡ true → read_catch_up (Some (decimal max)) ≡ Ok (CatchUp max)
unfolding read_catch_up
catch_up_again max may =
    let parts = and_parts (nat_le 1 max) (nat_le max 100) may in
    let high : max ≤ 100 = leb-true max 100 parts.1 in
    rw (last_again (decimal max) (number_field max high), number_again 1 100 max (leb-true 1 max parts.0) high (omega arith)) refl

words_again : (step : Step) (line : List ℕ) → may_do step ≡ true → SpellsStep step line → read_words (cut_of line) ≡ Ok step
unfolding read_words
words_again (Say to text) line may h = ap (λ (xs : List ℕ). read_words (cut_of xs)) h.2 ∙ say_again to text h.0 may h.1
words_again (CatchUp max) line may h = ap (λ (xs : List ℕ). read_words (cut_of xs)) h ∙ catch_up_again max may

step_again : (step : Step) (line : List ℕ) → may_do step ≡ true → SpellsStep step line → is_line line ≡ true → read_step (ended_line line) ≡ Ok step
unfolding read_step
step_again step line may h is = rw ((and_parts (is_utf8 line) _ is).0) (words_again step line may h)

-- ---- a text

line_cut : (line rest : List ℕ) → is_line line ≡ true → pieces_of (line ++ 10 ∷ rest) ≡ ended_line line ∷ pieces_of rest
line_cut line rest is = piece_after line rest (lacks_from 10 line (and_parts (is_utf8 line) _ is).1)

steps_again : (n : ℕ) (steps : List Step) (text : List ℕ) → list_all may_do steps ≡ true → SpellsSteps steps text → read_steps n (pieces_of text) ≡ Ok steps
steps_again n [] text may h = rw h refl
steps_again n (step ∷ steps) text may (line, rest, says, is, whole, others) =
    let parts = and_parts (may_do step) (list_all may_do steps) may in
    rw (whole, line_cut line rest is, step_again step line parts.0 says is, steps_again (n + 1) steps rest parts.1 others) refl

pub script_again : (text : List ℕ) (script : ScriptView) → Says text script → script_reading text ≡ Ok script
unfolding script_reading read_first
script_again text script h =
    let first : pieces_of text ≡ ended_line (codes "xmpp-sync 1") ∷ pieces_of (h.line ++ 10 ∷ h.rest) = ap pieces_of h.whole ∙ piece_after (codes "xmpp-sync 1") (h.line ++ 10 ∷ h.rest) (lacks_from 10 (codes "xmpp-sync 1") refl) in
    rw (first, line_cut h.line h.rest h.user.line, user_again script.user h.line h.right.user h.user, steps_again 3 script.steps h.rest h.right.steps h.steps) refl
