-- Words, numbers and texts of a report's lines are read as what they say.
use Rattle.std.proofs.Common.{◌≡◌, ℕ, suc, ◌<◌, ◌^◌, Bool, true, false, eqb, leb, ltb, List, [], ◌∷◌, ◌++◌, length, Ok, refl, arith, codes}
use Rattle.std.specs.Prelude.{not, ◌&&◌}
use Rattle.std.specs.Fmt.{decimal}
use Rattle.std.specs.List.{list_all}
use Rattle.std.proofs.lemmas.Bool.{and_from, ne_eqb}
use Rattle.std.proofs.lemmas.Bool.Decides.{nat_tests}
use Rattle.cmd_report_reader.specs.LineReading.{number_in}
use Rattle.cmd_report_reader.specs.Readable.{IsField, IsOnLine}
use Rattle.cmd_schedule.specs.Reading.{not_empty}
use Rattle.cmd_schedule.proofs.Again.{IsPlain, IsWord, digits_word, plain_append, plain_from_all, word_from_all}
use Rattle.cmd_schedule.proofs.Numbers.{decimal_number, number_again}
use Rattle.cmd_schedule.proofs.Words.{Lacks, Lacks-tail}

some_bytes : (bytes : List ℕ) → 0 < length bytes → not_empty bytes ≡ true
some_bytes [] some = absurd (omega arith)
some_bytes (b ∷ bytes) some = refl

none_spaces : (bytes : List ℕ) → Lacks 32 bytes → list_all (λ b. not (eqb b 32)) bytes ≡ true
none_spaces [] lacks = refl
none_spaces (b ∷ bytes) lacks =
    let other : not (eqb b 32) ≡ true = rw (ne_eqb b 32 (lacks 0 (omega arith))) refl in
    and_from (not (eqb b 32)) (list_all (λ c. not (eqb c 32)) bytes) other (none_spaces bytes (Lacks-tail 32 b bytes lacks))

pub line_plain : (text : List ℕ) → IsOnLine text → IsPlain text
line_plain text h = record { lacks = λ i lt. h.one i 0 lt; spelled = h.spelled }

pub line_some : (text : List ℕ) → IsOnLine text → not_empty text ≡ true
line_some text h = some_bytes text h.some

pub field_word : (word : List ℕ) → IsField word → IsWord word
field_word word h =
    let lacks : Lacks 32 word = λ i lt. h.one i 0 lt in
    record { some = some_bytes word h.line.some; lacks = lacks; whole = none_spaces word lacks; plain = line_plain word h.line }

-- a number's digits
pub record IsNumeral (n : ℕ) : Type 0 where
  pub read : number_in (decimal n) ≡ Ok n
  pub word : IsWord (decimal n)

pub numeral : (n : ℕ) → n < 2 ^ 64 → IsNumeral n
numeral n low = record {
  read = number_again 0 18446744073709551615 n (omega arith) (omega arith) (omega arith);
  word = digits_word (decimal n) (decimal_number n low);
}

-- a word and what follows it behind a space
pub spaced : (xs ys : List ℕ) → IsPlain xs → IsPlain ys → IsPlain (xs ++ 32 ∷ ys)
spaced xs ys hx hy = plain_append xs (32 ∷ ys) hx (plain_append (32 ∷ []) ys (plain_from_all (32 ∷ []) refl) hy)

-- a printable character that is no space
abbrev is_printable : ℕ → Bool
is_printable c = leb 33 c && ltb c 128

-- a word of these, as each word that the text itself has
pub printable_word : (word : List ℕ) → not_empty word ≡ true → list_all is_printable word ≡ true → IsWord word
printable_word word some all = word_from_all is_printable (λ c e. grind (arith, nat_tests)) word some all
