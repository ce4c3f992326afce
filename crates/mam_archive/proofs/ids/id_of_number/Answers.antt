use Rattle.base_lemmas.proofs.HexDigits.{hex16_of-IsAscii}
use Rattle.mam_archive.proofs.ids.id_of_number.Goals as goal

pub ascii_str-requires : goal.ascii_str-requires
ascii_str-requires c = rw c.id_text.ensures (hex16_of-IsAscii c.args.number)
