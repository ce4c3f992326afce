-- The definitions, evaluated at texts: those of RFC 4648, section 10, and texts that are not in the canonical form.
use Rattle.std.proofs.Common.{◌≡◌, true, false, codes, refl}
use Rattle.base64.proofs.OnLiterals.{base64_on_literals}
use Rattle.auth_primitives.specs.Canonical.{is_base64}
use Rattle.auth_primitives.specs.Reading.{is_accepted}

empty : is_accepted (codes "") ≡ true
empty = refl

one : is_accepted (codes "Zg==") ≡ true
one = refl

two : is_accepted (codes "Zm8=") ≡ true
two = refl

three : is_accepted (codes "Zm9v") ≡ true
three = refl

six : is_accepted (codes "Zm9vYmFy") ≡ true
six = refl

-- every symbol beside letters and digits
others : is_accepted (codes "+/+/") ≡ true
others = refl

no_padding : is_accepted (codes "Zg") ≡ false
no_padding = refl

half_padded : is_accepted (codes "Zg=") ≡ false
half_padded = refl

-- the last bits are no byte's
bits_left : is_accepted (codes "Zh==") ≡ false
bits_left = refl

bits_left_of_two : is_accepted (codes "Zm9=") ≡ false
bits_left_of_two = refl

after_padding : is_accepted (codes "Zg==Zg==") ≡ false
after_padding = refl

padding_alone : is_accepted (codes "====") ≡ false
padding_alone = refl

space : is_accepted (codes "Zm9v Zm9v") ≡ false
space = refl

other_alphabet : is_accepted (codes "-_-_") ≡ false
other_alphabet = refl

-- the port of base64 decodes so
decoded : is_base64 (codes "Zg==") ≡ true
unfolding is_base64 base64_on_literals
decoded = refl

not_decoded : is_base64 (codes "Zh==") ≡ false
unfolding is_base64 base64_on_literals
not_decoded = refl
