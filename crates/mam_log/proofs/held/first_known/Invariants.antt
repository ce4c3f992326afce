use Rattle.std.proofs.Common.{◌≡◌, ◌-◌, ◌≤◌, length, drop, filter}
use Rattle.std.specs.BTreeSet.{contains_text}
use Rattle.mam_log.proofs.held.first_known.Given as goal

-- none of those that were passed is known
abbrev pub invariant-loop-at : goal.invariant-loop-at
invariant-loop-at l = record {
  bound : l.at ≤ length l.items;
  left : filter (λ e. contains_text l.ids e.id) (drop l.at l.items) ≡ filter (λ e. contains_text l.ids e.id) (drop l.start l.items);
}

abbrev pub decreases-loop-at : goal.decreases-loop-at
decreases-loop-at l = length l.items - l.at
