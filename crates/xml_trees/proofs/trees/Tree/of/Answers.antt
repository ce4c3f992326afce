use Rattle.std.proofs.Common.{sym, subst, rules}
use Rattle.xml_trees.proofs.TidyLaws.{tidied_IsTree, tidied_stays}
use Rattle.xml_trees.specs.Trees.{IsTree}
use Rattle.xml_trees.specs.Views.{elem_view}
use Rattle.xml_trees.proofs.trees.Tree.of.Goals as goal

pub returns-then-keeps_rule-clause-tree : goal.returns-then-keeps_rule-clause-tree
returns-then-keeps_rule-clause-tree c =
    let tree : IsTree (elem_view c.args.element) = search rules in
    sym (tidied_stays (elem_view c.args.element) tree)

pub invariant_of-result-2 : goal.invariant_of-result-2
invariant_of-result-2 c = subst IsTree (sym c.in_ok-tidy.ensures) (tidied_IsTree (elem_view c.args.element))
