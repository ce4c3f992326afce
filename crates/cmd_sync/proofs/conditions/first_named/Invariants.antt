-- Those to come have the condition that all have.
use Rattle.std.proofs.Common.{◌≡◌, drop}
use Rattle.cmd_sync.specs.Conditions.{first_named}
use Rattle.cmd_sync.proofs.conditions.first_named.Given as goal

abbrev pub invariant-loop-known : goal.invariant-loop-known
invariant-loop-known l = first_named l.name (drop l.known-index l.among) ≡ first_named l.name l.among
