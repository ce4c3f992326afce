use Rattle.std.proofs.Common.{◌≡◌, ◌≤◌, ◌++◌, drop, map}
use Rattle.srv_core.specs.Configs
use Rattle.srv_state.specs.Seen.{kept_of}
use Rattle.srv_core.proofs.config.archives_of.Given as goal

-- what was made, and what is left to make
abbrev pub invariant-loop-account : goal.invariant-loop-account
invariant-loop-account l = record {
  keep : 1 ≤ l.keep;
  made : map kept_of l.archives.items ++ Configs.archives_of l.domain l.keep (drop l.account-index l.accounts) ≡ Configs.archives_of l.domain l.keep l.accounts;
}
