use Rattle.std.proofs.Common.{◌≡◌, ◌++◌, take}
use Rattle.std.specs.List.{flat_map}
use Rattle.cmd_deciding.specs.Texts.{try_text}
use Rattle.cmd_deciding.proofs.texts.print_tries.Given as goal

abbrev pub invariant-loop-one : goal.invariant-loop-one
invariant-loop-one l = l.out.items ≡ l.initial.out.items ++ flat_map (try_text l.name l.k) (take l.one-index l.tries)
