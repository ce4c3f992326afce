use Rattle.std.proofs.Common.{◌≡◌, ◌+◌, ◌-◌, ◌≤◌, ◌++◌, length, take, drop, vec_capacity, vec_len}
use Rattle.mam_log.specs.LogPages.{ids_of}
use Rattle.mam_log.specs.Orders.{IsOrderOf}
use Rattle.mam_log.specs.Views.{first_repeat}
use Rattle.mam_log.proofs.id_order.repeated.Given as goal

-- no id repeats so far, and the results so far are in order
abbrev pub invariant-loop-at : goal.invariant-loop-at
invariant-loop-at l = record {
  order : IsOrderOf l.page.items (ids_of (take l.at l.results));
  same : first_repeat (ids_of l.entries) (ids_of l.results) ≡ first_repeat (ids_of l.entries ++ ids_of (take l.at l.results)) (ids_of (drop l.at l.results));
  room : length l.results ≤ l.at + (vec_capacity l.page - vec_len l.page);
}
