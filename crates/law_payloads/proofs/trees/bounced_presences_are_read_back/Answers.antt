use Rattle.law_payloads.proofs.TreeReads.{presence_bounce_error, presence_bounce_read}
use Rattle.law_payloads.proofs.trees.bounced_presences_are_read_back.Goals as goal

pub returns-clause-presence : goal.returns-clause-presence
returns-clause-presence c = λ from id form error. presence_bounce_read from id error form

pub returns-clause-error : goal.returns-clause-error
returns-clause-error c = λ from id error. presence_bounce_error from id error
