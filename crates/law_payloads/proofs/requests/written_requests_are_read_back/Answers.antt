use Rattle.im_extensions.proofs.RequestLaws.{bare_again}
use Rattle.law_payloads.proofs.RequestReads.{switch_written}
use Rattle.law_payloads.proofs.requests.written_requests_are_read_back.Goals as goal

pub returns-clause-switch : goal.returns-clause-switch
returns-clause-switch c = switch_written

pub returns-clause-named : goal.returns-clause-named
returns-clause-named c = bare_again
