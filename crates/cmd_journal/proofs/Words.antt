-- Fields and lines as they are written: words without a space, and lines without an LF, in UTF-8.
use Rattle.std.proofs.Common.{◌≡◌, ℕ, zero, suc, ◌≤◌, ◌<◌, ◌^◌, Bool, true, false, eqb, leb, ltb, List, [], ◌∷◌, ◌++◌, length, Some, Result, Ok, Err, refl, sym, ap, ◌∙◌, arith}
use Rattle.std.specs.Prelude.{not, ◌&&◌, nat_le}
use Rattle.std.specs.Fmt.{decimal}
use Rattle.std.specs.List.{list_all}
use Rattle.std.specs.Str.{IsUtf8, IsAscii}
use Rattle.std.proofs.lemmas.Bool.{and_parts, false≢true, leb-true}
use Rattle.std.proofs.lemmas.Bool.Decides.{nat_tests}
use Rattle.std.proofs.lemmas.List.Sums.{list_all-from_AllPass}
use Rattle.std.proofs.lemmas.Slice.Eq.{bytes_eq-Decides}
use Rattle.std.proofs.lemmas.Str.{IsUtf8-append, IsUtf8-from_ascii}
use Rattle.hex.specs.Hex.{encode_lower}
use Rattle.idna.specs.declared.deny_list.TheConstants.AsciiDenyList.{STD3}
use Rattle.idna.proofs.Uts46Lemmas.{IsOutputByte}
use Rattle.idna.proofs.ValidityLemmas.{denies-STD3}
use Rattle.base_lemmas.proofs.Lists.{list_all-weaker}
use Rattle.im_jid.specs.Forms.{domain_form, is_local_byte, local_form}
use Rattle.im_jid.specs.declared.fault.JidFault.{JidFault}
use Rattle.im_jid.proofs.PartForms.{domain_form_ok, local_form_ok}
use Rattle.cmd_journal.proofs.HexFields.{lower_text, text_some}
use Rattle.cmd_journal.specs.AccountsFiles.{is_account_name, is_domain, is_form, is_password, is_password_byte}
use Rattle.cmd_journal.specs.Journals.{are_bytes}
use Rattle.cmd_journal.specs.LineReading.{is_digit}
use Rattle.cmd_schedule.proofs.Numbers.{decimal_number, number_digits}
use Rattle.cmd_schedule.proofs.Words.{Lacks, cut_after}
use Rattle.cmd_schedule.specs.Reading.{last_field, next_field, not_empty}
use Rattle.cmd_schedule.specs.Grammar as schedules
use Rattle.cmd_schedule.proofs.Again.{lacks_append}

-- ---- bytes that pass a test

differs_by : (p : ℕ → Bool) (b c : ℕ) → p b ≡ true → p c ≡ false → b ≡ c → ⊥
differs_by p b c holds fails same = false≢true (sym fails ∙ ap p (sym same) ∙ holds)

pub lacks_from_all : (p : ℕ → Bool) (c : ℕ) (bytes : List ℕ) → p c ≡ false → list_all p bytes ≡ true → Lacks c bytes
lacks_from_all p c [] fails h i lt = absurd (omega arith)
lacks_from_all p c (b ∷ bytes) fails h zero lt = λ same. absurd (differs_by p b c (and_parts (p b) (list_all p bytes) h).0 fails same)
lacks_from_all p c (b ∷ bytes) fails h (suc i) lt = lacks_from_all p c bytes fails (and_parts (p b) (list_all p bytes) h).1 i (omega arith)

ascii_from_all : (p : ℕ → Bool) → ((c : ℕ) → p c ≡ true → c < 128) → (bytes : List ℕ) → list_all p bytes ≡ true → IsAscii bytes
ascii_from_all p low [] h i = omega arith
ascii_from_all p low (b ∷ bytes) h zero = low b (and_parts (p b) (list_all p bytes) h).0
ascii_from_all p low (b ∷ bytes) h (suc i) = ascii_from_all p low bytes (and_parts (p b) (list_all p bytes) h).1 i

-- what a line may be written with: no LF, and UTF-8
pub record IsPlain (bytes : List ℕ) : Type 0 where
  pub lacks : Lacks 10 bytes
  pub spelled : IsUtf8 bytes

pub plain_append : (xs ys : List ℕ) → IsPlain xs → IsPlain ys → IsPlain (xs ++ ys)
plain_append xs ys hx hy = record { lacks = lacks_append 10 xs ys hx.lacks hy.lacks; spelled = IsUtf8-append xs ys hx.spelled hy.spelled }

-- a printable ASCII character
abbrev is_plain_ascii : ℕ → Bool
is_plain_ascii c = leb 32 c && ltb c 128

pub plain_from_all : (bytes : List ℕ) → list_all is_plain_ascii bytes ≡ true → IsPlain bytes
plain_from_all bytes h = record {
  lacks = lacks_from_all is_plain_ascii 10 bytes refl h;
  spelled = IsUtf8-from_ascii bytes (ascii_from_all is_plain_ascii (λ c e. grind (arith, nat_tests)) bytes h);
}

-- a field without spaces
pub record IsWord (bytes : List ℕ) : Type 0 where
  pub some : not_empty bytes ≡ true
  pub lacks : Lacks 32 bytes
  pub whole : list_all (λ b. not (eqb b 32)) bytes ≡ true
  pub plain : IsPlain bytes

-- a character of ASCII that is printable, and no space
abbrev is_word_byte : ℕ → Bool
is_word_byte c = leb 33 c && ltb c 128

word_from : (bytes : List ℕ) → not_empty bytes ≡ true → list_all is_word_byte bytes ≡ true → IsWord bytes
word_from bytes some h = record {
  some = some;
  lacks = lacks_from_all is_word_byte 32 bytes refl h;
  whole = list_all-weaker is_word_byte (λ b. not (eqb b 32)) (λ c e. grind (arith, nat_tests)) bytes h;
  plain = plain_from_all bytes (list_all-weaker is_word_byte is_plain_ascii (λ c e. grind (arith, nat_tests)) bytes h);
}

some_from : (bytes : List ℕ) → 1 ≤ length bytes → not_empty bytes ≡ true
some_from [] h = absurd (omega arith)
some_from (b ∷ bytes) h = refl

-- ---- which fields are words

own_form : (form : Result (List ℕ) JidFault) (text : List ℕ) → is_form form text ≡ true → form ≡ Ok text
own_form (Ok other) text h = ap Ok ((bytes_eq-Decides other text).0 h)
own_form (Err fault) text h = absurd (false≢true h)

domain_byte : (b : ℕ) → IsOutputByte STD3 b → is_word_byte b ≡ true
domain_byte b h = let allowed = sym (denies-STD3 b) ∙ h.allowed in let low = h.ascii in grind (arith, nat_tests)

pub domain_word : (name : List ℕ) → is_domain name ≡ true → IsWord name
domain_word name h =
    let form = domain_form_ok name name (own_form (domain_form name) name h) in
    word_from name (some_from name form.size.0) (list_all-from_AllPass is_word_byte name (λ k d lt. domain_byte _ (form.bytes k d lt)))

local_byte : (b : ℕ) → is_local_byte b ≡ true → is_word_byte b ≡ true
local_byte b e = grind (arith, nat_tests)

pub name_word : (name : List ℕ) → is_account_name name ≡ true → IsWord name
name_word name h =
    let form = local_form_ok name name (own_form (local_form name) name h) in
    word_from name (some_from name form.size.0) (list_all-weaker is_local_byte is_word_byte local_byte name form.valid)

password_byte : (b : ℕ) → is_password_byte b ≡ true → is_word_byte b ≡ true
password_byte b e = grind (arith, nat_tests)

pub password_word : (text : List ℕ) → is_password text ≡ true → IsWord text
password_word text h =
    let outer = and_parts _ (list_all is_password_byte text) h in
    let inner = and_parts (nat_le 1 (length text)) (nat_le (length text) 100) outer.0 in
    word_from text (some_from text (leb-true 1 (length text) inner.0)) (list_all-weaker is_password_byte is_word_byte password_byte text outer.1)

decimal_byte : (b : ℕ) → schedules.is_digit b ≡ true → is_word_byte b ≡ true
decimal_byte b e = grind (arith, nat_tests)

pub number_word : (n : ℕ) → n < 2 ^ 64 → IsWord (decimal n)
number_word n low =
    let digits = number_digits (decimal n) (decimal_number n low) in
    word_from (decimal n) digits.0 (list_all-weaker schedules.is_digit is_word_byte decimal_byte (decimal n) digits.1)

hex_byte : (b : ℕ) → is_digit b ≡ true → is_word_byte b ≡ true
hex_byte b e = grind (arith, nat_tests)

pub hex_word : (bytes : List ℕ) → not_empty bytes ≡ true → are_bytes bytes ≡ true → IsWord (encode_lower bytes)
hex_word bytes some h =
    word_from (encode_lower bytes) (text_some bytes some) (list_all-weaker is_digit is_word_byte hex_byte (encode_lower bytes) (lower_text bytes h))

-- ---- fields that are read

pub next_again : (word rest : List ℕ) → IsWord word → next_field (Some (word ++ 32 ∷ rest)) ≡ Ok (record { front = word; rest = Some rest })
next_again word rest h = rw (cut_after word rest h.lacks, h.some) refl

pub last_again : (word : List ℕ) → IsWord word → last_field (Some word) ≡ Ok word
last_again word h = rw (h.some, h.whole) refl

-- a field behind a space
pub plain_after : (word rest : List ℕ) → IsPlain word → IsPlain rest → IsPlain (word ++ 32 ∷ rest)
plain_after word rest h k = plain_append word (32 ∷ rest) h (plain_append (32 ∷ []) rest (plain_from_all (32 ∷ []) refl) k)
