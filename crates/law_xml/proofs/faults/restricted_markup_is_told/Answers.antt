use Rattle.law_xml.proofs.FaultLaws as laws
use Rattle.law_xml.proofs.faults.restricted_markup_is_told.Goals as goal

pub returns-clause-bang : goal.returns-clause-bang
returns-clause-bang c = laws.bang

pub returns-clause-question : goal.returns-clause-question
returns-clause-question c = laws.question

pub returns-clause-departs : goal.returns-clause-departs
returns-clause-departs c = laws.departs

pub returns-clause-unspaced : goal.returns-clause-unspaced
returns-clause-unspaced c = laws.unspaced

pub returns-clause-section : goal.returns-clause-section
returns-clause-section c = laws.section
