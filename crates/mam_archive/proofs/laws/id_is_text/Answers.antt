use Rattle.base_lemmas.proofs.HexDigits.{hex16_of-IsAscii, hex16_of-IsUtf8, length-hex16_of}
use Rattle.mam_archive.proofs.laws.id_is_text.Goals as goal

pub returns-clause-text : goal.returns-clause-text
returns-clause-text c = hex16_of-IsUtf8

pub returns-clause-ascii : goal.returns-clause-ascii
returns-clause-ascii c = hex16_of-IsAscii

pub returns-clause-bytes : goal.returns-clause-bytes
returns-clause-bytes c = length-hex16_of
