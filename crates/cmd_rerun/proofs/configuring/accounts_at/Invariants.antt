use Rattle.std.proofs.Common.{◌≡◌, ◌++◌, drop}
use Rattle.std.specs.Prelude.{IsTrue}
use Rattle.std.specs.List.{list_all}
use Rattle.cmd_rerun.specs.Reruns.{accounts_at, has_password}
use Rattle.cmd_rerun.proofs.configuring.accounts_at.Given as goal

-- the accounts so far, and those of the lines that are left
abbrev pub invariant-loop-r : goal.invariant-loop-r
invariant-loop-r l = record {
  made : l.accounts.items ++ accounts_at l.domain (drop l.r-index l.registrations) ≡ accounts_at l.domain l.registrations;
  spelled : IsTrue (list_all has_password (drop l.r-index l.registrations));
}
