use Rattle.cmd_world.proofs.Declares.{no_fault}
use Rattle.cmd_world.proofs.accounts.server_of.Goals as goal

pub begun-requires-clause-right : goal.begun-requires-clause-right
begun-requires-clause-right c =
    no_fault c.args.names.now c.in_ok-accounts.accounts.items c.in_ok-domain.domain c.requires.names c.in_ok-accounts.ensures c.in_ok-domain.ensures
