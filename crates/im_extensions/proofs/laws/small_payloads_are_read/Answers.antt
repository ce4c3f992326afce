use Rattle.im_extensions.proofs.ReadLaws.{ack_law, enable_law, switch_law}
use Rattle.im_extensions.proofs.laws.small_payloads_are_read.Goals as goal

pub returns-clause-enable : goal.returns-clause-enable
returns-clause-enable c = enable_law

pub returns-clause-ack : goal.returns-clause-ack
returns-clause-ack c = ack_law

pub returns-clause-switch : goal.returns-clause-switch
returns-clause-switch c = switch_law
