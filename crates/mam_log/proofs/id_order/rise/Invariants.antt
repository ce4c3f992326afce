use Rattle.std.proofs.Common.{◌++◌, take, IsUtf8}
use Rattle.mam_log.specs.LogPages.{ids_of}
use Rattle.mam_log.specs.Orders.{AreUpTo, Rise}
use Rattle.mam_log.proofs.id_order.rise.Given as goal

-- no id so far is above the last one, and each is above those before it
abbrev pub invariant-loop-at : goal.invariant-loop-at
invariant-loop-at l = record {
  text : IsUtf8 l.last;
  up : AreUpTo l.last (ids_of l.entries ++ ids_of (take l.at l.results));
  rise : Rise (ids_of l.entries) (ids_of (take l.at l.results));
}
