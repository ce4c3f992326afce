use Rattle.std.proofs.Common.{◌++◌, drop}
use Rattle.std.specs.List.Sorted.{IsStrictlySortedBy}
use Rattle.std.specs.Option.{option_copied, option_to_list}
use Rattle.std.specs.Prelude.{◌↔◌}
use Rattle.xml_trees.specs.Attributes.{name_order}
use Rattle.xml_trees.proofs.attributes.are_in_order.Given as goal

-- the last one and those ahead are in order just where all are
abbrev pub invariant-loop-attr : goal.invariant-loop-attr
invariant-loop-attr l = IsStrictlySortedBy name_order (option_to_list (option_copied l.before) ++ drop l.attr-index l.attrs) ↔ IsStrictlySortedBy name_order l.attrs
