use Rattle.std.proofs.Common.{◌≡◌, ◌+◌, drop}
use Rattle.cl_intents.specs.Intents.{first_due}
use Rattle.cl_intents.proofs.intents.first_due.Given as goal

-- none of the intents so far is due
abbrev pub invariant-loop-intent : goal.invariant-loop-intent
invariant-loop-intent l = record {
  whole : first_due l.full l.sure l.client.client l.number (drop l.intent-index l.intents) ≡ first_due l.full l.sure l.client.client 1 l.intents;
  at : l.number ≡ l.intent-index + 1;
}
