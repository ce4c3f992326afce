use Rattle.im_extensions.proofs.RequestLaws.{carbons_switch_exact}
use Rattle.im_extensions.proofs.RequestLaws.{bare_again, bare_refused}
use Rattle.im_extensions.proofs.laws.requests_are_exact.Goals as goal

pub returns-clause-switch : goal.returns-clause-switch
returns-clause-switch c = carbons_switch_exact

pub returns-clause-refused : goal.returns-clause-refused
returns-clause-refused c = bare_refused

pub returns-clause-read_back : goal.returns-clause-read_back
returns-clause-read_back c = bare_again
