use Rattle.im_jid.proofs.NormalAgain.{normal_again, normal_bare, normal_utf8, normal_address}
use Rattle.im_jid.proofs.laws.normal_form_stays.Goals as goal

pub returns-clause-again : goal.returns-clause-again
returns-clause-again c = normal_again

pub returns-clause-bare : goal.returns-clause-bare
returns-clause-bare c = normal_bare

pub returns-clause-text : goal.returns-clause-text
returns-clause-text c = normal_utf8

pub returns-clause-parts : goal.returns-clause-parts
returns-clause-parts c = normal_address
