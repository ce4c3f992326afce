use Rattle.law_xml.proofs.FaultLaws as laws
use Rattle.law_xml.proofs.faults.tags_outside_elements_are_judged.Goals as goal

pub returns-clause-first : goal.returns-clause-first
returns-clause-first c = λ t e h outer p is. laws.first t outer h e p is

pub returns-clause-first_declared : goal.returns-clause-first_declared
returns-clause-first_declared c = λ t e h outer p is. laws.first_declared t outer h e p is

pub returns-clause-header : goal.returns-clause-header
returns-clause-header c = λ t e h outer p opens is. laws.header t outer h e p opens is

pub returns-clause-element : goal.returns-clause-element
returns-clause-element c = λ t e h outer p opens is. laws.element t outer h e p opens is

pub returns-clause-deep : goal.returns-clause-deep
returns-clause-deep c = λ t tag h outer p opens is far. laws.top_deep t outer h tag p opens is far

pub returns-clause-header_declared : goal.returns-clause-header_declared
returns-clause-header_declared c = λ t e h outer p opens is. laws.header_after_declaration t outer h e p opens is

pub returns-clause-declared : goal.returns-clause-declared
returns-clause-declared c = λ t h outer p opens. laws.after_declaration t outer h p opens

pub returns-clause-ended : goal.returns-clause-ended
returns-clause-ended c = λ t h outer p. laws.behind_footer t outer h p

pub returns-clause-footer : goal.returns-clause-footer
returns-clause-footer c = laws.footer
