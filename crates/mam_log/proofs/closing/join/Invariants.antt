use Rattle.std.proofs.Common.{◌≡◌, ◌-◌, ◌≤◌, ◌++◌, IsTrue, None, length, vec_capacity, vec_len}
use Rattle.std.specs.Vec.Iter.{into_iter_items, into_iter_len}
use Rattle.mam_log.specs.LogPages.{ids_of}
use Rattle.mam_log.specs.Orders.{IsOrderOf, Rise}
use Rattle.mam_log.specs.Views.{first_repeat}
use Rattle.mam_log.proofs.closing.join.Given as goal

-- what was moved and what is to come are the results, for which there is room; no id repeats, and what was moved is in
-- order
abbrev pub invariant-loop-entry : goal.invariant-loop-entry
invariant-loop-entry l = record {
  whole : l.entries.items ++ into_iter_items l.entry-iterator ≡ l.initial.entries.items ++ l.fn.results.items;
  counted : into_iter_len l.entry-iterator ≡ length (into_iter_items l.entry-iterator);
  room : length (into_iter_items l.entry-iterator) ≤ l.entries.spare;
  positions : length (into_iter_items l.entry-iterator) ≤ vec_capacity l.order - vec_len l.order;
  order : IsOrderOf l.order.items (ids_of l.entries.items);
  rising : IsTrue l.rising → Rise (ids_of l.entries.items) (ids_of (into_iter_items l.entry-iterator));
  fresh : first_repeat (ids_of l.entries.items) (ids_of (into_iter_items l.entry-iterator)) ≡ None;
}
