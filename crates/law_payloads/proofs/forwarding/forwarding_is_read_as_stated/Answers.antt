use Rattle.law_payloads.proofs.ForwardReads.{carbon_answers, forwarded_answers, inside_answers, result_answers}
use Rattle.law_payloads.proofs.forwarding.forwarding_is_read_as_stated.Goals as goal

pub returns-clause-inside : goal.returns-clause-inside
returns-clause-inside c = inside_answers

pub returns-clause-forwarded : goal.returns-clause-forwarded
returns-clause-forwarded c = forwarded_answers

pub returns-clause-carbon : goal.returns-clause-carbon
returns-clause-carbon c = carbon_answers

pub returns-clause-result : goal.returns-clause-result
returns-clause-result c = result_answers
