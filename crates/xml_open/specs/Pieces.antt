-- What pieces of elements say, one behind the other.
use Rattle.std.specs.Prelude.{ℕ, ◌+◌, ◌==◌, Bool, not, if◌then◌else◌, length, List, [], ◌∷◌, ◌++◌, Option, Some, None}
use Rattle.xml_open.specs.Nested.{covered, first_of, rest_of}
use Rattle.xml_open.specs.declared.pieces.Piece.{Piece}
use Rattle.xml_open.specs.declared.pieces.Piece.TheVariants as piece
use Rattle.xml_trees.specs.Attributes.{Attribute, attribute}
use Rattle.xml_trees.specs.Trees.{Elem, element, Nodes, child, no_nodes, text, with_nodes}

-- The namespace that holds, the parts of an attribute in hand, the attributes of the element that begins next, and the open
-- elements: the innermost, and those around it, the innermost first.
pub record Reading : Type 0 where
  pub ns : List ℕ
  pub attr_ns : List ℕ
  pub attr_name : List ℕ
  pub attrs : List Attribute
  pub here : Option Elem
  pub below : List Elem

abbrev pub at_start : Reading
at_start = record { ns = []; attr_ns = []; attr_name = []; attrs = []; here = None; below = [] }

abbrev pub put_in : Option Elem → Nodes → Option Elem
put_in None more = None
put_in (Some e) more = Some (with_nodes e more)

-- an element that begins here
abbrev pub next_element : Reading → List ℕ → Elem
next_element r name = element r.ns name r.attrs no_nodes

-- the attribute in hand has this value
abbrev pub with_value : Reading → List ℕ → Reading
with_value r value = record r { attrs = r.attrs ++ attribute r.attr_ns r.attr_name value ∷ []; attr_ns = []; attr_name = [] }

-- an element begins, or contains nothing; a text; the innermost element ends
abbrev pub begun : Reading → List ℕ → Reading
begun r name = record r { here = Some (next_element r name); below = covered r.here r.below; attrs = [] }

abbrev pub with_leaf : Reading → List ℕ → Reading
with_leaf r name = record r { here = put_in r.here (child (next_element r name) no_nodes); attrs = [] }

abbrev pub with_text : Reading → List ℕ → Reading
with_text r t = record r { here = put_in r.here (text t no_nodes) }

abbrev pub ended_in : Option Elem → Reading → Reading
ended_in None r = r
ended_in (Some e) r = record r { here = put_in (first_of r.below) (child e no_nodes); below = rest_of r.below }

abbrev pub ended : Reading → Reading
ended r = ended_in r.here r

abbrev pub step : Reading → Piece → Reading
step r (piece.Namespace t) = record r { ns = t }
step r (piece.AttributeName t) = record r { attr_name = t; attr_ns = [] }
step r (piece.AttributeNamespace t) = record r { attr_ns = t }
step r (piece.Value t) = with_value r t
step r (piece.Attributes l) = record r { attrs = l.items }
step r (piece.Start t) = begun r t
step r (piece.Leaf t) = with_leaf r t
step r (piece.Text t) = with_text r t
step r piece.End = ended r

abbrev pub read_on : Reading → List Piece → Reading
read_on r [] = r
read_on r (p ∷ ps) = read_on (step r p) ps

abbrev pub reading : List Piece → Reading
reading = read_on at_start

-- an attribute more for the element that begins next
abbrev pub with_attr : Reading → Attribute → Reading
with_attr r a = record r { attrs = r.attrs ++ a ∷ []; attr_ns = []; attr_name = [] }

abbrev pub with_attrs : Reading → List Attribute → Reading
with_attrs r [] = r
with_attrs r (a ∷ rest) = with_attrs (with_attr r a) rest

-- how many attributes have a namespace, and how many pieces attributes take
abbrev pub has_namespace : Attribute → Bool
has_namespace a = not (length a.ns == 0)

abbrev pub attr_pieces : Attribute → ℕ
attr_pieces a = if has_namespace a then 3 else 2

abbrev pub attrs_pieces : List Attribute → ℕ
attrs_pieces [] = 0
attrs_pieces (a ∷ attrs) = attr_pieces a + attrs_pieces attrs

-- room for so many pieces is enough for attributes, as one piece or as four in pieces of their own
abbrev pub most_pieces : List Attribute → ℕ
most_pieces attrs = if length attrs == 0 then 0 else 12

abbrev pub in_namespace : Reading → List ℕ → Reading
in_namespace r ns = record r { ns = ns }

-- what pieces say, and how many more fit without more memory
pub record PiecesView : Type 0 where
  pub reading : Reading
  pub spare : ℕ
