-- A field without characters below U+20 is written as it is.
use Rattle.std.proofs.Common.{◌≡◌, ℕ, true, List, [], ◌∷◌, refl, ap₂}
use Rattle.std.specs.List.{list_all}
use Rattle.std.proofs.lemmas.Bool.{and_parts}
use Rattle.std.proofs.lemmas.Bool.Decides.{nat_tests}
use Rattle.std.proofs.Common.{arith}
use Rattle.cmd_journal.specs.Texts.{is_shown, plain_byte, plain_field}

plain_byte_shown : (b : ℕ) → is_shown b ≡ true → plain_byte b ≡ b
plain_byte_shown b h = grind (arith, nat_tests)

pub plain_field_shown : (text : List ℕ) → list_all is_shown text ≡ true → plain_field text ≡ text
plain_field_shown [] h = refl
plain_field_shown (b ∷ text) h =
    let parts = and_parts (is_shown b) (list_all is_shown text) h in
    ap₂ (λ y ys. y ∷ ys) (plain_byte_shown b parts.0) (plain_field_shown text parts.1)
