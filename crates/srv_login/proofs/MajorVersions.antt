-- Digits that aren't all 0 write a number of 1 or more.
use Rattle.std.proofs.Common.{◌≡◌, ℕ, ◌+◌, ◌*◌, ◌==◌, nat_lt, nat_le, Bool, true, false, not, ◌&&◌, ◌||◌, List, [], ◌∷◌, length, refl, sym, ap, ◌∙◌, arith}
use Rattle.std.proofs.lemmas.Bool.{and_parts}
use Rattle.std.proofs.lemmas.Bool.Decides.{nat_tests}
use Rattle.std.specs.Char.{digit_value, is_ascii_digit}
use Rattle.std.specs.List.{list_all, list_any}
use Rattle.std.specs.Str.Parse.{digits_value, digits_value_after}
use Rattle.srv_login.specs.Headers.{are_digits, is_major}

abbrev pub is_more : ℕ → Bool
is_more b = not (b == 48)

-- one digit more behind a number
more_after : (n d : ℕ) → is_ascii_digit d ≡ true → nat_le 1 (n * 10 + digit_value d) ≡ (nat_le 1 n || is_more d)
more_after n d digit = grind (arith, nat_tests)

or_false : (b : Bool) → b ≡ (b || false)
or_false true = refl
or_false false = refl

or_assoc : (a b c : Bool) → ((a || b) || c) ≡ (a || (b || c))
or_assoc true b c = refl
or_assoc false b c = refl

value_after : (n : ℕ) (ds : List ℕ) → list_all is_ascii_digit ds ≡ true → nat_le 1 (digits_value_after 10 n ds) ≡ (nat_le 1 n || list_any is_more ds)
value_after n [] all = or_false (nat_le 1 n)
value_after n (d ∷ ds) all =
    let parts = and_parts (is_ascii_digit d) (list_all is_ascii_digit ds) all in
    value_after (n * 10 + digit_value d) ds parts.1
    ∙ ap (λ b. b || list_any is_more ds) (more_after n d parts.0)
    ∙ or_assoc (nat_le 1 n) (is_more d) (list_any is_more ds)

and_when : (a b c : Bool) → (a ≡ true → b ≡ c) → (a && b) ≡ (a && c)
and_when true b c same = same refl
and_when false b c same = refl

-- so a major number is digits of which some isn't 0
pub major_is : (text : List ℕ) → (are_digits text && list_any is_more text) ≡ is_major text
major_is text =
    and_when (are_digits text) (list_any is_more text) (nat_le 1 (digits_value 10 text))
    (λ digits. sym (value_after 0 text (and_parts (nat_lt 0 (length text)) (list_all is_ascii_digit text) digits).1))
