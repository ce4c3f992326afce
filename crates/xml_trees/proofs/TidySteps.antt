-- An element is tidied child by child.
use Rattle.std.proofs.Common.{◌≡◌, ℕ, zero, suc, ◌+◌, ◌<◌, ◌≤◌, List, [], ◌∷◌, ◌++◌, length, get_or, set, take, drop, refl, sym, ap, ◌∙◌, arith, add-one}
use Rattle.std.proofs.lemmas.List.{drop_all, take_all}
use Rattle.xml_trees.proofs.Folds.{joined_assoc, joined_none}
use Rattle.xml_trees.specs.Tidied.{inner_tidied, texts_joined, text_node, tidied, tidied_after}
use Rattle.xml_trees.specs.Trees.{Nodes, no_nodes, child, text, joined}
use Rattle.xml_trees.specs.Views.{node_view, nodes_view}
use Rattle.xml_trees.specs.declared.elements.Node.{Node}

pub inner_joined : (a b : Nodes) → inner_tidied (joined a b) ≡ joined (inner_tidied a) (inner_tidied b)
inner_joined no_nodes b = refl
inner_joined (child e rest) b = ap (child (tidied e)) (inner_joined rest b)
inner_joined (text t rest) b = ap (text t) (inner_joined rest b)

-- the texts are joined after the children are tidied
pub two_steps : (run : List ℕ) (ks : Nodes) → texts_joined run (inner_tidied ks) ≡ tidied_after run ks
two_steps run no_nodes = refl
two_steps run (child e rest) = ap (λ n. joined (text_node run) (child (tidied e) n)) (two_steps [] rest)
two_steps run (text t rest) = two_steps (run ++ t) rest

-- the nodes of which the first i are tidied
abbrev pub so_far : ℕ → List Node → Nodes
so_far i ks = joined (nodes_view (take i ks)) (inner_tidied (nodes_view (drop i ks)))

next_tidied : (ks : List Node) (i : ℕ) (x y : Node) → i < length ks → get_or ks i x ≡ x → node_view y ≡ inner_tidied (node_view x) → so_far (suc i) (set ks i y) ≡ so_far i ks
next_tidied [] i x y within at is = absurd (omega arith)
next_tidied (k ∷ ks) zero x y within at is =
    let first : node_view y ≡ inner_tidied (node_view k) = is ∙ ap (λ n. inner_tidied (node_view n)) (sym at) in
    rw (joined_none (node_view y), first) (sym (inner_joined (node_view k) (nodes_view ks)))
next_tidied (k ∷ ks) (suc i) x y within at is =
    joined_assoc (node_view k) (nodes_view (take (suc i) (set ks i y))) (inner_tidied (nodes_view (drop (suc i) (set ks i y))))
    ∙ ap (joined (node_view k)) (next_tidied ks i x y (omega arith) at is)
    ∙ sym (joined_assoc (node_view k) (nodes_view (take i ks)) (inner_tidied (nodes_view (drop i ks))))

pub tidied_more : (ks : List Node) (i : ℕ) (x y : Node) → i < length ks → get_or ks i x ≡ x → node_view y ≡ inner_tidied (node_view x) → so_far (i + 1) (set ks i y) ≡ so_far i ks
tidied_more ks i x y within at is = rw (add-one i) (next_tidied ks i x y within at is)

pub all_tidied : (ks : List Node) (i : ℕ) → length ks ≤ i → so_far i ks ≡ nodes_view ks
all_tidied ks i past = rw (take_all i ks past, drop_all i ks past) (joined_none (nodes_view ks))
