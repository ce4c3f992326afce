use Rattle.std.proofs.Common.{rules, ◌≡◌, ◌≤◌, ◌∙◌, sym, ap, arith, length, []}
use Rattle.xml_trees.proofs.Folds.{elem_view_is, elem_view_made}
use Rattle.xml_trees.proofs.TidySteps.{all_tidied, tidied_more, two_steps}
use Rattle.xml_trees.specs.Attributes.{sorted_attributes}
use Rattle.xml_trees.specs.Tidied.{texts_joined, tidied_after}
use Rattle.xml_trees.specs.Trees.{element}
use Rattle.xml_trees.specs.Views.{nodes_view}
use Rattle.xml_trees.proofs.tidying.+tidy.Goals as goal

pub tidy-loop-i-preserved : goal.tidy-loop-i-preserved
tidy-loop-i-preserved t c =
    let was = c.loop-i.invariant in
    record {
      unvisited = search rules;
      ns = was.ns;
      name = was.name;
      attrs = was.attrs;
      children = tidied_more c.loop-i.element.children.items c.loop-i.i c.index_mut.result.now c.tidy_node.new.node (omega (arith, was.unvisited.0, c.args.element.now.children.ok.0)) (sym c.index_mut.ensures.value) c.in_ok-tidy_node.ensures ∙ was.children;
    }

pub tidy-returns : goal.tidy-returns
tidy-returns t c =
    let was = c.loop-i.invariant in
    let now = c.loop-i.element in
    let given = c.args.element.now in
    let past : length now.children.items ≤ c.loop-i.i = omega (arith, was.unvisited.0, c.args.element.now.children.ok.0) in
    let attrs : c.in_ok-element.field-0.items ≡ sorted_attributes given.attrs.items = rw (c.in_ok-element.ensures, c.replace-attrs.ensures.value, was.attrs) in
    let children : nodes_view c.in_ok-element-2.field-0.items ≡ tidied_after [] (nodes_view given.children.items) =
    rw (c.in_ok-element-2.ensures, c.replace-children.ensures.value) (ap (texts_joined []) (sym (all_tidied now.children.items c.loop-i.i past) ∙ was.children) ∙ two_steps [] (nodes_view given.children.items)) in
    rw (elem_view_made, elem_view_is c.args.element.now) (λ i. element (was.ns i) (was.name i) (attrs i) (children i))
