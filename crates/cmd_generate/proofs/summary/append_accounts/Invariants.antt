use Rattle.std.proofs.Common.{◌≡◌, ◌++◌, take}
use Rattle.std.specs.List.{flat_map}
use Rattle.cmd_generate.specs.Summary.{account_summary}
use Rattle.cmd_generate.proofs.summary.append_accounts.Given as goal

abbrev pub invariant-loop-account : goal.invariant-loop-account
invariant-loop-account l = l.out.items ≡ l.initial.out.items ++ flat_map account_summary (take l.account-index l.accounts)
