use Rattle.std.proofs.Common.{◌≡◌, drop, map}
use Rattle.im_login.specs.Discovery.{feature_elems, word}
use Rattle.xml_trees.specs.Trees.{with_nodes}
use Rattle.xml_trees.specs.Views.{elem_view}
use Rattle.im_login.proofs.discovery.push_features.Given as goal

-- those ahead are missing
abbrev pub invariant-loop-feature : goal.invariant-loop-feature
invariant-loop-feature l =
    with_nodes (elem_view l.query) (feature_elems (map word (drop l.feature-index l.features))) ≡ with_nodes (elem_view l.fn.query) (feature_elems (map word l.features))
