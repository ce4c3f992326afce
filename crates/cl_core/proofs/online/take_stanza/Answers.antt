use Rattle.std.proofs.Common.{ℕ, List, ap}
use Rattle.std.proofs.lemmas.Result.{on_err_weaker}
use Rattle.cl_handlers.specs.Clients.{ClientStep}
use Rattle.cl_handlers.specs.ClientSteps.{left}
use Rattle.cl_core.proofs.online.take_stanza.Goals as goal

pub returns-in-Message-clause-err : goal.returns-in-Message-clause-err
returns-in-Message-clause-err c =
    on_err_weaker c.message-taken.result (λ same. ap (λ (t : ClientStep (List ℕ) ℕ). left t) same) c.message-taken.ensures.err
