-- The lines that are left lead where all of them do.
use Rattle.std.proofs.Common.{◌≡◌, drop}
use Rattle.cmd_world.specs.Declaring.{MayAllDeclare, all_declared, nothing_begun}
use Rattle.cmd_world.proofs.accounts.declared_by.Given as goal

abbrev pub invariant-loop-line : goal.invariant-loop-line
invariant-loop-line l = record {
  may : MayAllDeclare (drop l.line-index l.lines) l.declared;
  done : all_declared (drop l.line-index l.lines) l.declared ≡ all_declared l.lines nothing_begun;
}
