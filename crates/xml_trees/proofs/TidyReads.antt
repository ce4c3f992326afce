-- What readers find in an element they find in its tree.
use Rattle.std.proofs.Common.{◌≡◌, ℕ, ◌+◌, max, Bool, true, false, cond, List, [], ◌∷◌, ◌++◌, Option, Some, None, refl, sym, ap, ◌∙◌, append-nil, append_assoc, subst, option_map}
use Rattle.std.proofs.lemmas.List.Folds.{find-append}
use Rattle.std.specs.Option.{option_or}
use Rattle.xml_trees.proofs.AttributeOrder.{sorted_attributes_IsAttrsOf}
use Rattle.xml_trees.specs.Attributes.{Attribute, found, has_name}
use Rattle.xml_trees.specs.Readers.{attr_of, child_of, elements_of, first_named, is_named, text_of}
use Rattle.xml_trees.specs.Tidied.{text_node, tidied, tidied_after}
use Rattle.xml_trees.specs.Trees.{Elem, element, Nodes, no_nodes, child, text, joined, nodes_of, with_attribute, with_nodes, IsTree, AreTidy, depth, depth_below}

-- ---- lists joined

pub text_of-joined : (a b : Nodes) → text_of (joined a b) ≡ text_of a ++ text_of b
text_of-joined no_nodes b = refl
text_of-joined (child e rest) b = text_of-joined rest b
text_of-joined (text t rest) b = ap (λ s. t ++ s) (text_of-joined rest b) ∙ sym (append_assoc t (text_of rest) (text_of b))

pub text_of-text_node : (t : List ℕ) → text_of (text_node t) ≡ t
text_of-text_node [] = refl
text_of-text_node (c ∷ cs) = append-nil (c ∷ cs)

pub first_named-joined : (ns name : List ℕ) (a b : Nodes) → first_named ns name (joined a b) ≡ option_or (first_named ns name a) (first_named ns name b)
first_named-joined ns name no_nodes b = refl
first_named-joined ns name (child e rest) b = either (is_named ns name e) e (first_named ns name (joined rest b)) (first_named ns name rest) (first_named ns name b) (first_named-joined ns name rest b)
  where
    either : (n : Bool) (e : Elem) (o p q : Option Elem) → o ≡ option_or p q → cond n (Some e) o ≡ option_or (cond n (Some e) p) q
    either true e o p q is = refl
    either false e o p q is = is
first_named-joined ns name (text t rest) b = first_named-joined ns name rest b

pub first_named-text_node : (ns name t : List ℕ) (rest : Nodes) → first_named ns name (joined (text_node t) rest) ≡ first_named ns name rest
first_named-text_node ns name [] rest = refl
first_named-text_node ns name (c ∷ cs) rest = refl

pub elements_of-joined : (a b : Nodes) → elements_of (joined a b) ≡ elements_of a ++ elements_of b
elements_of-joined no_nodes b = refl
elements_of-joined (child e rest) b = ap (λ es. e ∷ es) (elements_of-joined rest b)
elements_of-joined (text t rest) b = elements_of-joined rest b

pub depth_below-text_node : (t : List ℕ) (rest : Nodes) → depth_below (joined (text_node t) rest) ≡ depth_below rest
depth_below-text_node [] rest = refl
depth_below-text_node (c ∷ cs) rest = refl

-- ---- one attribute or node more

pub found-push : (ns name : List ℕ) (attrs : List Attribute) (a : Attribute) → found ns name (attrs ++ a ∷ []) ≡ option_or (found ns name attrs) (cond (has_name ns name a) (Some a) None)
found-push ns name attrs a = find-append (has_name ns name) attrs (a ∷ [])

option_map_or : {A B : Type 0} (f : A → B) (o p : Option A) → option_map f (option_or o p) ≡ option_or (option_map f o) (option_map f p)
option_map_or f None p = refl
option_map_or f (Some x) p = refl

-- a pushed attribute is found where none of its name stood before
pub attr_of-with_attribute : (ns name : List ℕ) (e : Elem) (a : Attribute) → attr_of ns name (with_attribute e a) ≡ option_or (attr_of ns name e) (cond (has_name ns name a) (Some a.value) None)
attr_of-with_attribute ns name (element m n attrs kids) a =
    ap (option_map (λ (b : Attribute). b.value)) (found-push ns name attrs a)
    ∙ option_map_or (λ (b : Attribute). b.value) (found ns name attrs) (cond (has_name ns name a) (Some a) None)
    ∙ ap (option_or (option_map (λ (b : Attribute). b.value) (found ns name attrs))) (value_at (has_name ns name a))
  where
    value_at : (b : Bool) → option_map (λ (b : Attribute). b.value) (cond b (Some a) None) ≡ cond b (Some a.value) None
    value_at true = refl
    value_at false = refl

pub attr_of-with_nodes : (ns name : List ℕ) (e : Elem) (more : Nodes) → attr_of ns name (with_nodes e more) ≡ attr_of ns name e
attr_of-with_nodes ns name (element m n attrs kids) more = refl

pub child_of-with_nodes : (ns name : List ℕ) (e : Elem) (more : Nodes) → child_of ns name (with_nodes e more) ≡ option_or (child_of ns name e) (first_named ns name more)
child_of-with_nodes ns name (element m n attrs kids) more = first_named-joined ns name kids more

-- ---- tidied

pub is_named-tidied : (ns name : List ℕ) (e : Elem) → is_named ns name (tidied e) ≡ is_named ns name e
is_named-tidied ns name (element m n attrs kids) = refl

pub attr_of-tidied : (ns name : List ℕ) (e : Elem) → attr_of ns name (tidied e) ≡ attr_of ns name e
attr_of-tidied ns name (element m n attrs kids) = ap (option_map (λ (a : Attribute). a.value)) ((sorted_attributes_IsAttrsOf attrs).firsts ns name)

pub text_of-tidied_after : (run : List ℕ) (ks : Nodes) → text_of (tidied_after run ks) ≡ run ++ text_of ks
text_of-tidied_after run no_nodes = text_of-text_node run ∙ sym (append-nil run)
text_of-tidied_after run (child e rest) =
    text_of-joined (text_node run) (child (tidied e) (tidied_after [] rest)) ∙ ap (λ s. s ++ text_of (tidied_after [] rest)) (text_of-text_node run) ∙ ap (λ s. run ++ s) (text_of-tidied_after [] rest)
text_of-tidied_after run (text t rest) = text_of-tidied_after (run ++ t) rest ∙ append_assoc run t (text_of rest)

pub text_of-tidied : (e : Elem) → text_of (nodes_of (tidied e)) ≡ text_of (nodes_of e)
text_of-tidied (element m n attrs kids) = text_of-tidied_after [] kids

pub first_named-tidied_after : (ns name run : List ℕ) (ks : Nodes) → first_named ns name (tidied_after run ks) ≡ option_map tidied (first_named ns name ks)
first_named-tidied_after ns name [] no_nodes = refl
first_named-tidied_after ns name (c ∷ cs) no_nodes = refl
first_named-tidied_after ns name run (child e rest) =
    first_named-text_node ns name run (child (tidied e) (tidied_after [] rest))
    ∙ rw (is_named-tidied ns name e, first_named-tidied_after ns name [] rest) (one_of (is_named ns name e) e (first_named ns name rest))
  where
    one_of : (b : Bool) (e : Elem) (o : Option Elem) → cond b (Some (tidied e)) (option_map tidied o) ≡ option_map tidied (cond b (Some e) o)
    one_of true e o = refl
    one_of false e o = refl
first_named-tidied_after ns name run (text t rest) = first_named-tidied_after ns name (run ++ t) rest

pub child_of-tidied : (ns name : List ℕ) (e : Elem) → child_of ns name (tidied e) ≡ option_map tidied (child_of ns name e)
child_of-tidied ns name (element m n attrs kids) = first_named-tidied_after ns name [] kids

mutual
  pub depth-tidied : (e : Elem) → depth (tidied e) ≡ depth e
  depth-tidied (element ns name attrs kids) = ap (λ n. n + 1) (depth_below-tidied_after [] kids)

  pub depth_below-tidied_after : (run : List ℕ) (ks : Nodes) → depth_below (tidied_after run ks) ≡ depth_below ks
  depth_below-tidied_after [] no_nodes = refl
  depth_below-tidied_after (c ∷ cs) no_nodes = refl
  depth_below-tidied_after run (child e rest) =
      depth_below-text_node run (child (tidied e) (tidied_after [] rest)) ∙ (λ i. max (depth-tidied e i) (depth_below-tidied_after [] rest i))
  depth_below-tidied_after run (text t rest) = depth_below-tidied_after (run ++ t) rest

-- ---- parts of trees

pub nodes_of_tree : (e : Elem) → IsTree e → AreTidy (nodes_of e)
nodes_of_tree (element ns name attrs kids) tree = tree.1

pub first_named_IsTree : (ns name : List ℕ) (ks : Nodes) → AreTidy ks → (e : Elem) → first_named ns name ks ≡ Some e → IsTree e
first_named_IsTree ns name no_nodes tidy e is = absurd (let p = is in cc)
first_named_IsTree ns name (child f rest) tidy e is =
    one_of (is_named ns name f) (λ h. let p = h in let same : f ≡ e = cc in subst IsTree same tidy.0) (λ h. first_named_IsTree ns name rest tidy.1 e h) is
  where
    one_of : (b : Bool) → (Some f ≡ Some e → IsTree e) → (first_named ns name rest ≡ Some e → IsTree e) → cond b (Some f) (first_named ns name rest) ≡ Some e → IsTree e
    one_of true p q h = p h
    one_of false p q h = q h
first_named_IsTree ns name (text t rest) tidy e is = first_named_IsTree ns name rest tidy.2 e is

-- a child of a tree is a tree
pub child_of_IsTree : (ns name : List ℕ) (e : Elem) → IsTree e → (f : Elem) → child_of ns name e ≡ Some f → IsTree f
child_of_IsTree ns name e tree f is = first_named_IsTree ns name (nodes_of e) (nodes_of_tree e tree) f is
