use Rattle.law_payloads.proofs.TreeReads.{bounce_error, bounce_read, bounce_refused}
use Rattle.law_payloads.proofs.trees.bounced_messages_are_read_back.Goals as goal

pub returns-clause-message : goal.returns-clause-message
returns-clause-message c = λ from id form error. bounce_read from id error form

pub returns-clause-error : goal.returns-clause-error
returns-clause-error c = λ from id error. bounce_error from id error

pub returns-clause-bad_from : goal.returns-clause-bad_from
returns-clause-bad_from c = λ from id error. bounce_refused from id error
