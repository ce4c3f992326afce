use Rattle.law_xml.proofs.PipeLaws.{gives_all, hands}
use Rattle.law_xml.proofs.carried.first_bytes_give_first_items.Goals as goal

pub returns : goal.returns
returns c = record { first = hands; all = gives_all }
