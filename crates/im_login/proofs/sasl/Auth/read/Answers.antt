use Rattle.std.proofs.Common.{IfErr, codes, subst}
use Rattle.im_payload.specs.Faults.{IsFault}
use Rattle.im_login.specs.Sasl.{AuthLacks, is_sasl}
use Rattle.im_login.proofs.sasl.Auth.read.Goals as goal

pub returns-clause-err : goal.returns-clause-err
returns-clause-err c = subst (λ e. IfErr c.read_element.result (IsFault (is_sasl (codes "auth") e) (AuthLacks e))) c.element.ensures c.read_element.ensures.err
