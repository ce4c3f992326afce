use Rattle.law_xml.proofs.WrittenFits as elements
use Rattle.law_xml.proofs.WrittenHeaders as headers
use Rattle.law_xml.proofs.round_trips.written_items_are_read.Goals as goal

pub returns-clause-element : goal.returns-clause-element
returns-clause-element c = elements.written_element_is_read

pub returns-clause-element_in : goal.returns-clause-element_in
returns-clause-element_in c = elements.element_is_read

pub returns-clause-first : goal.returns-clause-first
returns-clause-first c = headers.first_header_is_read

pub returns-clause-first_declared : goal.returns-clause-first_declared
returns-clause-first_declared c = headers.first_declared_header_is_read

pub returns-clause-next : goal.returns-clause-next
returns-clause-next c = headers.next_header_is_read

pub returns-clause-declared : goal.returns-clause-declared
returns-clause-declared c = headers.declared_header_is_read

pub returns-clause-footer : goal.returns-clause-footer
returns-clause-footer c = headers.footer_is_read
