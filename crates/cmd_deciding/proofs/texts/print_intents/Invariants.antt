-- The text so far, and that of the intents that are left.
use Rattle.std.proofs.Common.{◌≡◌, ◌+◌, ◌++◌, drop}
use Rattle.cmd_deciding.specs.Texts.{texts_from}
use Rattle.cmd_deciding.proofs.texts.print_intents.Given as goal

abbrev pub invariant-loop-index : goal.invariant-loop-index
invariant-loop-index l =
    l.out.items ++ texts_from l.name l.intents.full l.intents.sure l.client.client (l.index + 1) (drop l.index l.intents.intents)
    ≡ l.initial.out.items ++ texts_from l.name l.intents.full l.intents.sure l.client.client 1 l.intents.intents
