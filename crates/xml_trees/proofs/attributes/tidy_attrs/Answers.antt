use Rattle.std.proofs.Common.{◌≡◌, ◌∙◌, sym, rules}
use Rattle.std.specs.List.Sorted.{IsStable, IsStrictlySortedBy}
use Rattle.xml_trees.proofs.AttributeOrder.{sorted_attributes_stay, sorted_then_deduped}
use Rattle.xml_trees.specs.Attributes.{name_order}
use Rattle.xml_trees.proofs.attributes.tidy_attrs.Goals as goal

pub returns-then-are_in_order : goal.returns-then-are_in_order
returns-then-are_in_order c =
    let up : IsStrictlySortedBy name_order c.args.attrs.items = search rules in
    sym (sorted_attributes_stay c.args.attrs.items up)

pub returns : goal.returns
returns c =
    let stable : IsStable name_order c.args.attrs.items c.sort_by_name.new.attrs.items = rw c.into_items-given.ensures at c.in_ok-sort_by_name.ensures.stable in
    c.from.ensures ∙ c.drop_repeats.ensures
    ∙ sorted_then_deduped c.args.attrs.items c.sort_by_name.new.attrs.items c.in_ok-sort_by_name.ensures.sorted stable
