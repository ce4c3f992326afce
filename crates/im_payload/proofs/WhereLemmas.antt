-- Children and attributes that are there or not.
use Rattle.std.proofs.Common.{◌≡◌, List, [], ◌++◌, ℕ, Option, Some, None, option_map, refl, sym, ap, ◌∙◌}
use Rattle.xml_trees.proofs.Folds.{joined_assoc, joined_none}
use Rattle.xml_trees.specs.Attributes.{sorted_attributes}
use Rattle.xml_trees.specs.Tidied.{text_node, tidied, tidied_after, tidied_nodes}
use Rattle.xml_trees.specs.Trees.{Elem, element, Nodes, no_nodes, child, text, joined, with_nodes}
use Rattle.im_stanza.specs.Errors.{trees_where}
use Rattle.im_stanza.specs.Written.{attr_where}

-- an attribute alone is in order
pub attr_stays : (ns name : List ℕ) (given : Option (List ℕ)) → sorted_attributes (attr_where ns name given) ≡ attr_where ns name given
attr_stays ns name None = refl
attr_stays ns name (Some t) = refl

-- a child behind nodes, where there is one
tidied_more : (run : List ℕ) (nodes : Nodes) (more : Option Elem) → tidied_after run (joined nodes (trees_where more)) ≡ joined (tidied_after run nodes) (trees_where (option_map tidied more))
tidied_more run no_nodes None = sym (joined_none (text_node run))
tidied_more run no_nodes (Some e) = refl
tidied_more run (child e rest) more =
    ap (λ nodes. joined (text_node run) (child (tidied e) nodes)) (tidied_more [] rest more)
    ∙ sym (joined_assoc (text_node run) (child (tidied e) (tidied_after [] rest)) (trees_where (option_map tidied more)))
tidied_more run (text t rest) more = tidied_more (run ++ t) rest more

pub more_stays : (nodes : Nodes) (more : Option Elem) → tidied_nodes nodes ≡ nodes → option_map tidied more ≡ more → tidied_nodes (joined nodes (trees_where more)) ≡ joined nodes (trees_where more)
more_stays nodes more stay one = tidied_more [] nodes more ∙ (λ i. joined (stay i) (trees_where (one i)))

-- a child is added where there is one
pub nothing_added : (e : Elem) (more : Option Elem) → more ≡ None → e ≡ with_nodes e (trees_where more)
nothing_added (element ns name attrs kids) None none = ap (element ns name attrs) (sym (joined_none kids))
nothing_added e (Some x) none = absurd (let p = none in cc)

pub one_added : (e new : Elem) (more : Option Elem) (one : Elem) → more ≡ Some one → new ≡ with_nodes e (child one no_nodes) → new ≡ with_nodes e (trees_where more)
one_added e new more one is added = added ∙ ap (λ o. with_nodes e (trees_where o)) (sym is)
