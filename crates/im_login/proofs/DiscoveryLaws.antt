-- What is told of an entity is a tree, and is written one by one.
use Rattle.std.proofs.Common.{◌≡◌, ℕ, List, [], ◌∷◌, refl, ap, codes}
use Rattle.im_login.specs.Discovery.{Told, disco_info_elem, disco_items_elem, feature_elem, feature_elems, identity_elem, identity_elems}
use Rattle.im_payload.specs.Names.{disco_info}
use Rattle.xml_trees.proofs.Folds.{joined_assoc, joined_none}
use Rattle.xml_trees.specs.Tidied.{tidied, tidied_nodes}
use Rattle.xml_trees.specs.Trees.{Elem, element, Nodes, no_nodes, child, joined, with_nodes}

features_stay : (features : List (List ℕ)) → tidied_nodes (feature_elems features) ≡ feature_elems features
features_stay [] = refl
features_stay (f ∷ fs) = ap (child (feature_elem f)) (features_stay fs)

all_stay : (identities : List Told) (features : List (List ℕ)) → tidied_nodes (joined (identity_elems identities) (feature_elems features)) ≡ joined (identity_elems identities) (feature_elems features)
all_stay [] features = features_stay features
all_stay (i ∷ is) features = ap (child (identity_elem i)) (all_stay is features)

pub told_stays : (identities : List Told) (features : List (List ℕ)) → tidied (disco_info_elem identities features) ≡ disco_info_elem identities features
told_stays identities features = ap (element disco_info (codes "query") []) (all_stay identities features)

pub items_stay : (node : List ℕ) → tidied (disco_items_elem node) ≡ disco_items_elem node
items_stay [] = refl
items_stay (c ∷ cs) = refl

-- nothing more, and one child more in front of others
pub none_more : (e : Elem) → with_nodes e no_nodes ≡ e
none_more (element ns name attrs kids) = ap (element ns name attrs) (joined_none kids)

pub one_more : (e one : Elem) (more : Nodes) → with_nodes (with_nodes e (child one no_nodes)) more ≡ with_nodes e (child one more)
one_more (element ns name attrs kids) one more = ap (element ns name attrs) (joined_assoc kids (child one no_nodes) more)
