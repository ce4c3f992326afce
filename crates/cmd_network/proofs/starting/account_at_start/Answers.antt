use Rattle.std.proofs.Common.{ℕ, List, ap, ◌∙◌}
use Rattle.srv_login.specs.Accounts.{account_of}
use Rattle.cmd_report.specs.Addresses.{domain}
use Rattle.cmd_network.proofs.starting.account_at_start.Goals as goal

pub returns-in-Ok : goal.returns-in-Ok
returns-in-Ok c = c.in-Ok.ensures.made ∙ ap (λ (password : List ℕ). account_of c.args.name.now domain password) (c.as_str.ensures ∙ c.in_ok-password.ensures)
