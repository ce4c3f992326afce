use Rattle.law_xml.proofs.ReferencePartLaws as parts
use Rattle.law_xml.proofs.byte_rows.references_go_on_exactly.Goals as goal

pub returns-clause-exactly : goal.returns-clause-exactly
returns-clause-exactly c = parts.goes_on_exactly

pub returns-clause-departs : goal.returns-clause-departs
returns-clause-departs c = parts.departs
