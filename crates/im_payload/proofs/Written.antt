-- What is written keeps the rule of a tree.
use Rattle.std.proofs.Common.{◌≡◌, ℕ, List, [], ◌∷◌, length, refl, sym, ap, arith}
use Rattle.im_payload.specs.Writing.{text_child_where}
use Rattle.xml_trees.proofs.Folds.{joined_none}
use Rattle.xml_trees.specs.Tidied.{text_node, tidied_after}
use Rattle.xml_trees.specs.Trees.{Elem, element, no_nodes, with_nodes}

pub after_text : (t : List ℕ) → tidied_after [] (text_node t) ≡ text_node t
after_text [] = refl
after_text (c ∷ cs) = refl

pub text_node_none : (t : List ℕ) → t ≡ [] → text_node t ≡ no_nodes
text_node_none [] h = refl
text_node_none (c ∷ cs) h = cc h

-- no child is added for an empty text
pub none_added : (e : Elem) (ns name t : List ℕ) → length t ≡ 0 → e ≡ with_nodes e (text_child_where ns name t)
none_added (element a b attrs kids) ns name [] h = ap (element a b attrs) (sym (joined_none kids))
none_added e ns name (c ∷ cs) h = absurd (omega (arith, h))
