use Rattle.std.proofs.Common.{◌≡◌, [], rules}
use Rattle.cmd_rerun.proofs.AccountsAtStart.{no_fault, passwords}
use Rattle.cmd_rerun.specs.Reruns.{accounts_at}
use Rattle.cmd_rerun.proofs.configuring.server_of.Goals as goal

pub accounts_at-requires : goal.accounts_at-requires
accounts_at-requires c = search (rules, passwords [] c.args.file.now.accounts c.requires.right.accounts)

pub begun-requires-clause-right : goal.begun-requires-clause-right
begun-requires-clause-right c =
    let made : c.in_ok-accounts.accounts.items ≡ accounts_at c.args.file.now.domain c.args.file.now.accounts = search (rules, c.in_ok-accounts.ensures.made) in
    search (rules, no_fault c.args.file.now c.in_ok-accounts.accounts.items c.requires.right made)
