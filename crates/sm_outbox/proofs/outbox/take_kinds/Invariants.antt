use Rattle.std.proofs.Common.{◌≡◌, ◌+◌, ◌-◌, ◌≤◌, length, take, drop}
use Rattle.sm_outbox.specs.Waiting.{count_true}
use Rattle.sm_outbox.proofs.outbox.take_kinds.Given as goal

-- what was counted and what is to be counted is all
abbrev pub invariant-loop : goal.invariant-loop
invariant-loop l = record {
  left : l.count - l.counter ≤ length l.kinds.items;
  few : l.submissions ≤ l.counter;
  counted : l.submissions + count_true (take (l.count - l.counter) l.kinds.items) ≡ count_true (take l.count l.fn.kinds.items);
  dropped : drop (l.count - l.counter) l.kinds.items ≡ drop l.count l.fn.kinds.items;
}
