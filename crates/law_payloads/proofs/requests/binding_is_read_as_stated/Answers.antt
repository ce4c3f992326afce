use Rattle.law_payloads.proofs.RequestReads.{request_answers, result_answers}
use Rattle.law_payloads.proofs.requests.binding_is_read_as_stated.Goals as goal

pub returns-clause-request : goal.returns-clause-request
returns-clause-request c = request_answers

pub returns-clause-result : goal.returns-clause-result
returns-clause-result c = result_answers
