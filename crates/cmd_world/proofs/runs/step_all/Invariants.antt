-- The lines that are left lead where all of them do.
use Rattle.std.proofs.Common.{◌≡◌, drop}
use Rattle.cmd_world.specs.Lines.{all_stepped}
use Rattle.cmd_world.specs.Standing.{IsNumbered, MayAllStep}
use Rattle.cmd_world.proofs.runs.step_all.Given as goal

abbrev pub invariant-loop-line : goal.invariant-loop-line
invariant-loop-line l = record {
  numbered : IsNumbered l.world;
  right : MayAllStep (drop l.line-index l.lines) l.world;
  done : all_stepped (drop l.line-index l.lines) l.world ≡ all_stepped l.lines l.initial.world;
}
