use Rattle.law_xml.proofs.HeaderLaws.{footer_spelled, header_spelled}
use Rattle.law_xml.proofs.writing.written_headers_are_spelled.Goals as goal

pub returns : goal.returns
returns c = record { header = header_spelled; footer = footer_spelled }
