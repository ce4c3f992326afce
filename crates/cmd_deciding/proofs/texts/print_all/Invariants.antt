-- The text so far, and that of the devices that are left.
use Rattle.std.proofs.Common.{◌≡◌, ◌++◌, drop}
use Rattle.cmd_deciding.specs.Texts.{all_texts}
use Rattle.cmd_deciding.proofs.texts.print_all.Given as goal

abbrev pub invariant-loop-device : goal.invariant-loop-device
invariant-loop-device l = record {
  whole : l.out.items ++ all_texts (drop l.device-index l.devices) (drop l.device-index l.intents) ≡ l.initial.out.items ++ all_texts l.devices l.intents;
  at : l.index ≡ l.device-index;
}
