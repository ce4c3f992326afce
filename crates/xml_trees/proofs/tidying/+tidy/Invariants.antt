use Rattle.std.proofs.Common.{◌≡◌}
use Rattle.xml_trees.proofs.TidySteps.{so_far}
use Rattle.xml_trees.specs.Tidied.{inner_tidied}
use Rattle.xml_trees.specs.Views.{nodes_view}
use Rattle.xml_trees.specs.declared.elements.Element.{out-Element}
use Rattle.xml_trees.proofs.tidying.+tidy.Given as goal

-- the first children are tidied, and nothing else has changed
abbrev pub invariant-tidy-loop-i : goal.invariant-tidy-loop-i
invariant-tidy-loop-i l = record {
  unvisited : goal.unvisited-tidy-loop-i l;
  ns : (out-Element l.element).ns ≡ (out-Element l.initial.element).ns;
  name : (out-Element l.element).name ≡ (out-Element l.initial.element).name;
  attrs : (out-Element l.element).attrs ≡ (out-Element l.initial.element).attrs;
  children : so_far l.i (out-Element l.element).children.items ≡ inner_tidied (nodes_view (out-Element l.initial.element).children.items);
}
