use Rattle.law_payloads.proofs.ArchivedReads.{archived_read, archived_result, type_sent}
use Rattle.law_payloads.proofs.forwarding.archived_messages_are_read_back.Goals as goal

pub returns-clause-untyped : goal.returns-clause-untyped
returns-clause-untyped c = type_sent

pub returns-clause-message : goal.returns-clause-message
returns-clause-message c = λ from to e. archived_read from to e

pub returns-clause-result : goal.returns-clause-result
returns-clause-result c = archived_result
