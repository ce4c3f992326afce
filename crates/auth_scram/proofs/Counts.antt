-- Decimal numbers as the counts of the grammar.
use Rattle.std.proofs.Common.{◌≡◌, ℕ, zero, suc, ◌+◌, ◌*◌, ◌-◌, ◌/◌, ◌%◌, ◌<◌, ◌≤◌, ◌^◌, true, List, [], ◌∷◌, ◌++◌, refl, ap, ◌∙◌, arith, inl, inr}
use Rattle.std.specs.Prelude.{fold}
use Rattle.std.specs.Fmt.{decimal}
use Rattle.std.specs.List.{list_all}
use Rattle.std.proofs.lemmas.Bool.{and_parts, cases_lt}
use Rattle.std.proofs.lemmas.Fmt.{decimal_digit, decimal_step}
use Rattle.auth_scram.specs.Classes.{is_count_start, is_digit}
use Rattle.auth_scram.specs.Grammar.{is_count}
use Rattle.auth_scram.specs.Values.{value_of}
use Rattle.auth_scram.proofs.PassedTests.{within_yes}

abbrev grown : ℕ → ℕ → ℕ
grown value digit = value * 10 + (digit - 48)

fold_more : (n d : ℕ) (ds : List ℕ) → fold grown n (ds ++ d ∷ []) ≡ grown (fold grown n ds) d
fold_more n d [] = refl
fold_more n d (c ∷ ds) = fold_more (grown n c) d ds

all_more : (d : ℕ) (ds : List ℕ) → list_all is_digit ds ≡ true → is_digit d ≡ true → list_all is_digit (ds ++ d ∷ []) ≡ true
all_more d [] h e = rw e refl
all_more d (c ∷ ds) h e = let parts = and_parts (is_digit c) (list_all is_digit ds) h in rw (parts.0, all_more d ds parts.1 e) refl

count_more : (d : ℕ) (ds : List ℕ) → is_count ds ≡ true → is_digit d ≡ true → is_count (ds ++ d ∷ []) ≡ true
count_more d [] h e = cc h
count_more d (c ∷ ds) h e = let parts = and_parts (is_count_start c) (list_all is_digit ds) h in rw (parts.0, all_more d ds parts.1 e) refl

first_value : (n : ℕ) → 0 * 10 + (48 + n - 48) ≡ n
first_value n = omega arith

counted : (k n : ℕ) → n ≤ k → 1 ≤ n → n < 2 ^ 64 → (is_count (decimal n) ≡ true) × (value_of (decimal n) ≡ n)
counted zero n le low high = absurd (omega arith)
counted (suc k) n le low high =
    elim (cases_lt n 10) [
      | inl small ↦
          let one = decimal_digit n small in
          (rw (one, within_yes 49 57 (48 + n) (omega arith) (omega arith)) refl, ap value_of one ∙ first_value n)
      | inr big ↦
          let step = decimal_step n big high in
          let front = counted k (n / 10) (omega arith) (omega arith) (omega arith) in
          let digit : is_digit (48 + n % 10) ≡ true = within_yes 48 57 (48 + n % 10) (omega arith) (omega arith) in
          let grows : n / 10 * 10 + (48 + n % 10 - 48) ≡ n = omega arith in (
            ap is_count step ∙ count_more (48 + n % 10) (decimal (n / 10)) front.0 digit,
            ap value_of step ∙ fold_more 0 (48 + n % 10) (decimal (n / 10)) ∙ ap (λ (v : ℕ). v * 10 + (48 + n % 10 - 48)) front.1 ∙ grows,
          )
    ]

pub decimal_count : (n : ℕ) → 1 ≤ n → n < 2 ^ 64 → (is_count (decimal n) ≡ true) × (value_of (decimal n) ≡ n)
decimal_count n low high = counted n n (omega arith) low high
