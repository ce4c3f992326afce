-- The lines that are left lead where all of them do.
use Rattle.std.proofs.Common.{◌≡◌, drop}
use Rattle.cmd_resolving.specs.Expansion.{all_gone}
use Rattle.cmd_deciding.proofs.Along.{Goes}
use Rattle.cmd_deciding.proofs.resolving.take_all.Given as goal

abbrev pub invariant-loop-line : goal.invariant-loop-line
invariant-loop-line l = record {
  goes : Goes l.file (drop l.line-index l.lines) l.watch;
  whole : all_gone l.file (drop l.line-index l.lines) l.watch ≡ all_gone l.file l.lines l.initial.watch;
}
