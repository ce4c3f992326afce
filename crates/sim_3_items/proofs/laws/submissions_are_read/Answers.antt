use Rattle.sim_3_items.proofs.ItemsDown.{accepted_read, bounced_read}
use Rattle.sim_3_items.proofs.ItemsUp.{carbons_read, presence_read, submission_read}
use Rattle.sim_3_items.proofs.laws.submissions_are_read.Goals as goal

pub returns-clause-carbons : goal.returns-clause-carbons
returns-clause-carbons c = carbons_read

pub returns-clause-presence : goal.returns-clause-presence
returns-clause-presence c = presence_read

pub returns-clause-submission : goal.returns-clause-submission
returns-clause-submission c = λ resource domain m is named. submission_read resource domain m is named

pub returns-clause-accepted : goal.returns-clause-accepted
returns-clause-accepted c = accepted_read

pub returns-clause-bounced : goal.returns-clause-bounced
returns-clause-bounced c = bounced_read
