use Rattle.base_lemmas.proofs.HexDigits.{hex16_of_same}
use Rattle.mam_archive.proofs.laws.ids_differ.Goals as goal

pub returns : goal.returns
returns c = hex16_of_same
