use Rattle.std.proofs.Common.{is_lt, rules}
use Rattle.std.proofs.lemmas.Fn.{always_returns_same}
use Rattle.std.proofs.lemmas.List.Sorted.{ranks_by}
use Rattle.xml_trees.proofs.AttributeOrder.{name_order_total}
use Rattle.xml_trees.specs.Attributes.{name_order}
use Rattle.xml_trees.proofs.attributes.sort_by_name.Goals as goal

pub returns-clause-sorted : goal.returns-clause-sorted
returns-clause-sorted c =
    c.in_ok-sort_by.ensures.sorted (λ a b. is_lt (name_order a b)) (ranks_by name_order_total (λ a. a)) (always_returns_same _ _ _ (λ a r f k. search rules))

pub returns-clause-stable : goal.returns-clause-stable
returns-clause-stable c =
    c.sort_by.ensures.stable (λ a b. is_lt (name_order a b)) (ranks_by name_order_total (λ a. a)) (always_returns_same _ _ _ (λ a r f k. search rules))
