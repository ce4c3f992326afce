use Rattle.std.proofs.Common.{◌≡◌, drop, map}
use Rattle.im_login.specs.Discovery.{identity_elems, shown}
use Rattle.xml_trees.specs.Trees.{with_nodes}
use Rattle.xml_trees.specs.Views.{elem_view}
use Rattle.im_login.proofs.discovery.push_identities.Given as goal

-- those ahead are missing
abbrev pub invariant-loop-identity : goal.invariant-loop-identity
invariant-loop-identity l =
    with_nodes (elem_view l.query) (identity_elems (map shown (drop l.identity-index l.identities))) ≡ with_nodes (elem_view l.fn.query) (identity_elems (map shown l.identities))
