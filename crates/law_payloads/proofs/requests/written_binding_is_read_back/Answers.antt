use Rattle.law_payloads.proofs.RequestReads.{request_written, result_written}
use Rattle.law_payloads.proofs.requests.written_binding_is_read_back.Goals as goal

pub returns-clause-request : goal.returns-clause-request
returns-clause-request c = request_written

pub returns-clause-result : goal.returns-clause-result
returns-clause-result c = result_written
