-- What is tidied keeps the rule of a tree, and what keeps it stays.
use Rattle.std.proofs.Common.{◌≡◌, ◌≢◌, ℕ, List, [], ◌∷◌, ◌++◌, refl, ap, ◌∙◌}
use Rattle.xml_trees.proofs.AttributeOrder.{sorted_attributes_IsAttrsOf, sorted_attributes_stay}
use Rattle.xml_trees.specs.Tidied.{text_node, tidied, tidied_after, tidied_nodes}
use Rattle.xml_trees.specs.Trees.{Elem, element, Nodes, no_nodes, child, text, joined, IsTree, AreTidy, NoTextFirst}

pub tidy_text : (run : List ℕ) (rest : Nodes) → NoTextFirst rest → AreTidy rest → AreTidy (joined (text_node run) rest)
tidy_text [] rest first tidy = tidy
tidy_text (c ∷ cs) rest first tidy = (λ e. let is = e in cc, first, tidy)

pub tidy_end : (run : List ℕ) → AreTidy (text_node run)
tidy_end [] = tt
tidy_end (c ∷ cs) = (λ e. let is = e in cc, tt, tt)

mutual
  pub tidied_IsTree : (e : Elem) → IsTree (tidied e)
  tidied_IsTree (element ns name attrs kids) = ((sorted_attributes_IsAttrsOf attrs).ascending, tidied_after_AreTidy [] kids)

  pub tidied_after_AreTidy : (run : List ℕ) (ks : Nodes) → AreTidy (tidied_after run ks)
  tidied_after_AreTidy run no_nodes = tidy_end run
  tidied_after_AreTidy run (child e rest) = tidy_text run (child (tidied e) (tidied_after [] rest)) tt (tidied_IsTree e, tidied_after_AreTidy [] rest)
  tidied_after_AreTidy run (text t rest) = tidied_after_AreTidy (run ++ t) rest

pub text_node_some : (t : List ℕ) → t ≢ [] → text_node t ≡ text t no_nodes
text_node_some [] some = absurd (some refl)
text_node_some (c ∷ cs) some = refl

mutual
  pub tidied_stays : (e : Elem) → IsTree e → tidied e ≡ e
  tidied_stays (element ns name attrs kids) tree = λ i. element ns name (sorted_attributes_stay attrs tree.0 i) (tidied_nodes_stay kids tree.1 i)

  pub tidied_nodes_stay : (ks : Nodes) → AreTidy ks → tidied_nodes ks ≡ ks
  tidied_nodes_stay no_nodes tidy = refl
  tidied_nodes_stay (child e rest) tidy = λ i. child (tidied_stays e tidy.0 i) (tidied_nodes_stay rest tidy.1 i)
  tidied_nodes_stay (text t no_nodes) tidy = text_node_some t tidy.0
  tidied_nodes_stay (text t (child e rest)) tidy =
      ap (λ n. joined n (child (tidied e) (tidied_after [] rest))) (text_node_some t tidy.0) ∙ (λ i. text t (child (tidied_stays e tidy.2.0 i) (tidied_nodes_stay rest tidy.2.1 i)))
  tidied_nodes_stay (text t (text u rest)) tidy = absurd tidy.1
