-- The accounts so far, and those of the names that are left.
use Rattle.std.proofs.Common.{◌≡◌, ◌++◌, drop, map}
use Rattle.cmd_network.specs.Starting.{account_at_start}
use Rattle.cmd_world.specs.Declaring.{AreNames}
use Rattle.cmd_world.proofs.accounts.accounts_at_start.Given as goal

abbrev pub invariant-loop-name : goal.invariant-loop-name
invariant-loop-name l = record {
  whole : l.accounts.items ++ map account_at_start (drop l.name-index l.names) ≡ map account_at_start l.names;
  names : AreNames (drop l.name-index l.names);
}
