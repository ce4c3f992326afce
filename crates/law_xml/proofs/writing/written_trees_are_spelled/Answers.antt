use Rattle.law_xml.proofs.CanonLaws.{canon_spelled, element_spelled}
use Rattle.law_xml.proofs.writing.written_trees_are_spelled.Goals as goal

pub returns : goal.returns
returns c = record { top = canon_spelled; inside = λ scope default e is stream. element_spelled scope default e (record { default = is; stream = stream }) }
