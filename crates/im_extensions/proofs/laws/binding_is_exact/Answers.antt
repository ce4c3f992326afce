use Rattle.im_extensions.proofs.BindLaws.{bind_request_exact}
use Rattle.im_extensions.proofs.BindLaws.{bind_result_exact}
use Rattle.im_extensions.proofs.laws.binding_is_exact.Goals as goal

pub returns-clause-request : goal.returns-clause-request
returns-clause-request c = bind_request_exact

pub returns-clause-result : goal.returns-clause-result
returns-clause-result c = bind_result_exact
