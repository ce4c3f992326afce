use Rattle.law_payloads.proofs.ForwardReads.{carbon_written, forwarded_stays, forwarded_written, result_written}
use Rattle.law_payloads.proofs.forwarding.written_forwarding_is_read_back.Goals as goal

pub returns-clause-forwarded : goal.returns-clause-forwarded
returns-clause-forwarded c = forwarded_written

pub returns-clause-carbon : goal.returns-clause-carbon
returns-clause-carbon c = carbon_written

pub returns-clause-result : goal.returns-clause-result
returns-clause-result c = result_written

pub returns-clause-stays : goal.returns-clause-stays
returns-clause-stays c = forwarded_stays
