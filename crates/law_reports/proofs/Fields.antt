-- Names, addresses, ids, numbers and texts of schedules are fields of a report's lines.
use Rattle.std.proofs.Common.{◌≡◌, ◌≢◌, ℕ, zero, suc, ◌<◌, ◌≤◌, ◌^◌, ◌/◌, ◌%◌, Bool, true, eqb, leb, ltb, List, [], ◌∷◌, ◌++◌, length, refl, ap, ◌∙◌, arith, codes}
use Rattle.std.specs.Prelude.{All, ◌&&◌}
use Rattle.std.specs.Fmt.{decimal}
use Rattle.std.specs.List.{list_all}
use Rattle.std.specs.Str.{NonePass, chars, is_utf8}
use Rattle.std.proofs.lemmas.Bool.{and_from, and_parts, false≢true}
use Rattle.std.proofs.lemmas.Bool.Decides.{nat_tests}
use Rattle.std.proofs.lemmas.List.{get_or_default, length-append}
use Rattle.std.proofs.lemmas.List.Folds.{list_all-append}
use Rattle.std.proofs.lemmas.Str.{IsUtf8-from_is_utf8, encodes-chars}
use Rattle.std.proofs.lemmas.Str.Pattern.{NoCharPasses-char}
use Rattle.mam_archive.specs.Ids.{id_of}
use Rattle.base_lemmas.proofs.HexDigits.{length-hex16_of}
use Rattle.base_lemmas.proofs.Lists.{list_all-weaker}
use Rattle.base_lemmas.specs.Hexadecimal.{hex16_of, hex_digit, hex_digits}
use Rattle.cmd_direct.proofs.LawLists.{is_name_byte, name_bytes}
use Rattle.cmd_report.specs.Addresses.{bare_address, full_address, origin_of}
use Rattle.cmd_report_reader.specs.Readable.{IsField, IsId, IsOnLine}
use Rattle.cmd_schedule.proofs.Again.{word_from_all}
use Rattle.cmd_schedule.proofs.Numbers.{decimal_number, number_digits}
use Rattle.cmd_schedule.proofs.Words.{Lacks}
use Rattle.cmd_schedule.specs.Grammar.{is_digit, is_name, is_text, is_text_character}
use Rattle.cmd_schedule.specs.Reading.{not_empty}

-- ---- visible characters

-- a character of ASCII that is seen
abbrev pub is_visible : ℕ → Bool
is_visible c = leb 33 c && ltb c 128

-- one or more of these
pub record IsVisible (word : List ℕ) : Type 0 where
  pub some : 0 < length word
  pub each : list_all is_visible word ≡ true

visible_range : (c : ℕ) → is_visible c ≡ true → (33 ≤ c) × (c < 128)
visible_range c e = grind (arith, nat_tests)

all_lack : (c : ℕ) (word : List ℕ) → Lacks c word → All (λ b. b ≢ c) word
all_lack c word lacks i d within = λ same. lacks i within (get_or_default word i 0 d within ∙ same)

-- a text has a byte exactly where it isn't empty
has_some : (text : List ℕ) → (0 < length text → not_empty text ≡ true) × (not_empty text ≡ true → 0 < length text)
has_some [] = (λ some. absurd (omega arith), λ some. absurd (false≢true some))
has_some (b ∷ bs) = (λ some. refl, λ some. omega arith)

pub visible_field : (word : List ℕ) → IsVisible word → IsField word
visible_field word h =
    let is = word_from_all is_visible visible_range word ((has_some word).0 h.some) h.each in
    record {
      line = record { some = h.some; spelled = is.plain.spelled; one = all_lack 10 word is.plain.lacks };
      one = all_lack 32 word is.lacks;
    }

-- words joined
pub joined : (front back : List ℕ) → IsVisible front → IsVisible back → IsVisible (front ++ back)
joined front back f b = record {
  some = omega (arith, f.some, length-append front back);
  each = list_all-append is_visible front back ∙ and_from _ _ f.each b.each;
}

pub marked : (c : ℕ) (word : List ℕ) → is_visible c ≡ true → IsVisible word → IsVisible (c ∷ word)
marked c word seen h = record { some = omega arith; each = and_from (is_visible c) (list_all is_visible word) seen h.each }

-- ---- names and addresses

name_byte : (c : ℕ) → is_name_byte c ≡ true → is_visible c ≡ true
name_byte c e = grind (arith, nat_tests)

name_some : (name : List ℕ) → is_name name ≡ true → 0 < length name
name_some [] h = absurd (false≢true h)
name_some (c ∷ cs) h = omega arith

pub name_visible : (name : List ℕ) → is_name name ≡ true → IsVisible name
name_visible name h = record {
  some = name_some name h;
  each = list_all-weaker is_name_byte is_visible name_byte name (name_bytes name h);
}

digit_byte : (c : ℕ) → is_digit c ≡ true → is_visible c ≡ true
digit_byte c e = grind (arith, nat_tests)

pub decimal_visible : (n : ℕ) → n < 2 ^ 64 → IsVisible (decimal n)
decimal_visible n low =
    let digits = number_digits (decimal n) (decimal_number n low) in
    record { some = (has_some (decimal n)).1 digits.0; each = list_all-weaker is_digit is_visible digit_byte (decimal n) digits.1 }

domain_visible : IsVisible (64 ∷ codes "chat.example")
domain_visible = record { some = omega arith; each = refl }

pub bare_visible : (account : List ℕ) → is_name account ≡ true → IsVisible (bare_address account)
bare_visible account h = joined account (64 ∷ codes "chat.example") (name_visible account h) domain_visible

pub full_visible : (account device : List ℕ) → is_name account ≡ true → is_name device ≡ true → IsVisible (full_address account device)
full_visible account device a d = joined (bare_address account) (47 ∷ device) (bare_visible account a) (marked 47 device refl (name_visible device d))

pub origin_visible : (device : List ℕ) (epoch n : ℕ) → is_name device ≡ true → epoch < 2 ^ 64 → n < 2 ^ 64 → IsVisible (origin_of device epoch n)
origin_visible device epoch n d low few =
    joined (device ++ 46 ∷ decimal epoch) (46 ∷ decimal n)
    (joined device (46 ∷ decimal epoch) (name_visible device d) (marked 46 (decimal epoch) refl (decimal_visible epoch low)))
    (marked 46 (decimal n) refl (decimal_visible n few))

-- ---- ids

hex_byte : (d : ℕ) → d < 16 → is_visible (hex_digit d) ≡ true
hex_byte d low = grind (arith, nat_tests)

hex_visible : (k n : ℕ) → list_all is_visible (hex_digits k n) ≡ true
hex_visible zero n = refl
hex_visible (suc k) n =
    list_all-append is_visible (hex_digits k (n / 16)) (hex_digit (n % 16) ∷ [])
    ∙ and_from _ _ (hex_visible k (n / 16)) (and_from _ true (hex_byte (n % 16) (omega arith)) refl)

pub id_visible : (n : ℕ) → IsVisible (id_of n)
unfolding hex16_of
id_visible n = record { some = omega (arith, length-hex16_of n); each = hex_visible 16 n }

sixteen_other : (id : List ℕ) → length id ≡ 16 → id ≢ codes "-"
sixteen_other id long same = let one : length id ≡ 1 = ap length same in omega arith

pub id_is : (n : ℕ) → IsId (id_of n)
id_is n = record { field = visible_field (id_of n) (id_visible n); other = sixteen_other (id_of n) (length-hex16_of n) }

-- ---- texts

none_are : (cs : List ℕ) → list_all is_text_character cs ≡ true → NonePass (λ d. eqb d 10) cs
none_are [] h = tt
none_are (c ∷ cs) h =
    let parts = and_parts (is_text_character c) (list_all is_text_character cs) h in
    ((let passes : is_text_character c ≡ true = parts.0 in grind (arith, passes, nat_tests)), none_are cs parts.1)

text_some : (text : List ℕ) → is_text text ≡ true → 0 < length text
text_some [] h = absurd (false≢true h)
text_some (b ∷ bytes) h = omega arith

pub text_on_line : (text : List ℕ) → is_text text ≡ true → IsOnLine text
text_on_line text h =
    let outer = and_parts _ (list_all is_text_character (chars text)) h in
    let inner = and_parts _ (is_utf8 text) outer.0 in
    let spelled = IsUtf8-from_is_utf8 text inner.1 in
    record {
      some = text_some text h;
      spelled = spelled;
      one = all_lack 10 text (λ i lt. NoCharPasses-char 10 text i (chars text, encodes-chars text spelled, none_are (chars text) outer.1) (omega arith) lt);
    }
