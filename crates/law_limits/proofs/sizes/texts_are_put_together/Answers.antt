use Rattle.law_limits.proofs.Characters.{said_append, said_printable}
use Rattle.law_limits.proofs.Numerals.{said_decimal, said_hex}
use Rattle.law_limits.proofs.TextSizes.{text_no_longer, value_append, value_short}
use Rattle.law_limits.proofs.sizes.texts_are_put_together.Goals as goal

pub returns : goal.returns
returns c = record { value = value_short; text = text_no_longer; joined = value_append; said = said_append; printable = said_printable; hexadecimal = said_hex; decimal = said_decimal }
