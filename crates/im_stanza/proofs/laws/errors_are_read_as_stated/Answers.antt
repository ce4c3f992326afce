use Rattle.im_stanza.proofs.ErrorLaws.{error_law, no_error_law}
use Rattle.im_stanza.proofs.laws.errors_are_read_as_stated.Goals as goal

pub returns-clause-error : goal.returns-clause-error
returns-clause-error c = error_law

pub returns-clause-no_error : goal.returns-clause-no_error
returns-clause-no_error c = no_error_law
