-- The definitions, evaluated at elements that were worked out beforehand.
use Rattle.std.proofs.Common.{◌≡◌, ℕ, true, false, [], ◌∷◌, List, Some, None, Less, Greater, refl}
use Rattle.std.specs.Prelude.{codes}
use Rattle.std.specs.List.Sorted.{IsStrictlySortedBy}
use Rattle.xml_trees.specs.Attributes.{attribute, name_order, sorted_attributes}
use Rattle.xml_trees.specs.Readers.{attr_of, child_of, elements_of, is_named, text_count, text_of}
use Rattle.xml_trees.specs.Tidied.{tidied}
use Rattle.xml_trees.specs.Trees.{Elem, element, Nodes, no_nodes, child, text, IsTree, depth, nodes_of}

abbrev client : List ℕ
client = codes "jabber:client"

abbrev xml : List ℕ
xml = codes "http://www.w3.org/XML/1998/namespace"

-- the namespace decides before the name, a shorter text stands before a longer one that begins with it, and bytes
-- decide: the bytes of é are above z
namespace_first : name_order (attribute (codes "a") (codes "z") []) (attribute (codes "b") (codes "a") []) ≡ Less
namespace_first = refl

shorter_first : name_order (attribute [] (codes "to") []) (attribute [] (codes "type") []) ≡ Less
shorter_first = refl

front_first : name_order (attribute [] (codes "id") []) (attribute [] (codes "i") []) ≡ Greater
front_first = refl

bytes_decide : name_order (attribute [] (195 ∷ 169 ∷ []) []) (attribute [] (codes "z") []) ≡ Greater
bytes_decide = refl

-- of two with one name the first is kept, and attributes of no namespace stand first
sorted : sorted_attributes (attribute xml (codes "lang") (codes "en") ∷ attribute [] (codes "to") (codes "first") ∷ attribute [] (codes "id") (codes "1") ∷ attribute [] (codes "to") (codes "second") ∷ [])
    ≡ attribute [] (codes "id") (codes "1") ∷ attribute [] (codes "to") (codes "first") ∷ attribute xml (codes "lang") (codes "en") ∷ []
sorted = refl

-- <message xmlns='jabber:client' to='a' id='1' to='b'><body/>one<!-- -->two<x><x/></x></message>, with empty texts between
abbrev body : Nodes → Elem
body inside = element client (codes "body") [] inside

abbrev given : Elem
given =
    element client (codes "message") (attribute [] (codes "to") (codes "a") ∷ attribute [] (codes "id") (codes "1") ∷ attribute [] (codes "to") (codes "b") ∷ [])
    (text [] (child (body (text (codes "hi") (text [] (text (codes "!") no_nodes)))) (text (codes "one") (text [] (text (codes "two") (child (body (text [] no_nodes)) (text [] no_nodes)))))))

abbrev tree : Elem
tree =
    element client (codes "message") (attribute [] (codes "id") (codes "1") ∷ attribute [] (codes "to") (codes "a") ∷ [])
    (child (body (text (codes "hi!") no_nodes)) (text (codes "onetwo") (child (body no_nodes) no_nodes)))

tidied_given : tidied given ≡ tree
tidied_given = refl

tidied_tree : tidied tree ≡ tree
tidied_tree = refl

-- what keeps the rule, and what doesn't
rule_of_tree : IsTree tree
unfolding IsStrictlySortedBy
rule_of_tree = (((refl, tt), (tt, tt)), ((tt, ((λ e. let is = e in cc), tt, tt)), ((λ e. let is = e in cc), tt, ((tt, tt), tt))))

texts_adjoin : ¬ (IsTree (body (text (codes "a") (text (codes "b") no_nodes))))
texts_adjoin h = h.1.1

text_is_empty : ¬ (IsTree (body (child (body (text [] no_nodes)) no_nodes)))
text_is_empty h = h.1.0.1.0 refl

names_repeat : ¬ (IsTree (element client (codes "a") (attribute [] (codes "to") [] ∷ attribute [] (codes "to") [] ∷ []) no_nodes))
unfolding IsStrictlySortedBy
names_repeat h = let same = h.0.0.0 in cc

-- readers
value_of_to : attr_of [] (codes "to") given ≡ Some (codes "a")
value_of_to = refl

value_in_namespace : attr_of client (codes "to") given ≡ None
value_in_namespace = refl

first_body : child_of client (codes "body") tree ≡ Some (body (text (codes "hi!") no_nodes))
first_body = refl

other_namespace : child_of [] (codes "body") tree ≡ None
other_namespace = refl

texts : text_of (nodes_of given) ≡ codes "onetwo"
texts = refl

count_of_texts : text_count (nodes_of given) ≡ 5
count_of_texts = refl

elements : elements_of (nodes_of tree) ≡ body (text (codes "hi!") no_nodes) ∷ body no_nodes ∷ []
elements = refl

named : is_named client (codes "message") tree ≡ true
named = refl

not_named : is_named [] (codes "message") tree ≡ false
not_named = refl

leaf : depth (body no_nodes) ≡ 1
leaf = refl

two_levels : depth tree ≡ 2
two_levels = refl
