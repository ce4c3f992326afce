-- The devices so far have looked, and the others look where all do.
use Rattle.std.proofs.Common.{◌≡◌, length}
use Rattle.cmd_resolving.specs.Expansion.{observed_from}
use Rattle.cmd_deciding.proofs.Looked.{rest_look}
use Rattle.cmd_deciding.proofs.watch.Watch.look_at_all.Given as goal

abbrev pub invariant-loop-index : goal.invariant-loop-index
invariant-loop-index l = record {
  world : l.self.world ≡ l.initial.self.world;
  many : length l.self.intents ≡ l.count;
  whole : rest_look l.index 0 l.self.world.devices l.self.intents ≡ observed_from 0 l.initial.self.world.devices l.initial.self.intents;
}
