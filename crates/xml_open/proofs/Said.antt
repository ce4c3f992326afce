-- What pieces say, one more of them.
use Rattle.std.proofs.Common.{◌≡◌, ◌≤◌, ◌*◌, List, [], ◌∷◌, ◌++◌, Bool, true, false, if◌then◌else◌, length, refl, sym, ◌∙◌, append-nil, append_assoc, arith}
use Rattle.xml_open.specs.Pieces.{Reading, at_start, attrs_pieces, has_namespace, read_on, reading, step, with_attr, with_attrs}
use Rattle.xml_open.specs.declared.pieces.Piece.{Piece}
use Rattle.xml_trees.specs.Attributes.{Attribute}

pub read_more : (r : Reading) (ps : List Piece) (p : Piece) → read_on r (ps ++ p ∷ []) ≡ step (read_on r ps) p
read_more r [] p = refl
read_more r (q ∷ ps) p = read_more (step r q) ps p

pub said_more : (ps : List Piece) (p : Piece) → reading (ps ++ p ∷ []) ≡ step (reading ps) p
said_more ps p = read_more at_start ps p

pub attrs_more : (r : Reading) (attrs : List Attribute) (a : Attribute) → with_attrs r (attrs ++ a ∷ []) ≡ with_attr (with_attrs r attrs) a
attrs_more r [] a = refl
attrs_more r (b ∷ attrs) a = attrs_more (with_attr r b) attrs a

-- what attributes change
pub attrs_after : (r : Reading) (attrs : List Attribute) → (with_attrs r attrs).attrs ≡ r.attrs ++ attrs
attrs_after r [] = sym (append-nil r.attrs)
attrs_after r (a ∷ attrs) = attrs_after (with_attr r a) attrs ∙ append_assoc r.attrs (a ∷ []) attrs

pub attrs_here : (r : Reading) (attrs : List Attribute) → (with_attrs r attrs).here ≡ r.here
attrs_here r [] = refl
attrs_here r (a ∷ attrs) = attrs_here (with_attr r a) attrs

pub attrs_below : (r : Reading) (attrs : List Attribute) → (with_attrs r attrs).below ≡ r.below
attrs_below r [] = refl
attrs_below r (a ∷ attrs) = attrs_below (with_attr r a) attrs

pub attrs_ns : (r : Reading) (attrs : List Attribute) → (with_attrs r attrs).ns ≡ r.ns
attrs_ns r [] = refl
attrs_ns r (a ∷ attrs) = attrs_ns (with_attr r a) attrs

-- ---- how many they are

at_most : (qualified : Bool) → (if qualified then 3 else 2) ≤ 3
at_most true = omega arith
at_most false = omega arith

pub pieces_bound : (attrs : List Attribute) → attrs_pieces attrs ≤ 3 * length attrs
pieces_bound [] = omega arith
pieces_bound (a ∷ attrs) = let rest = pieces_bound attrs in let this = at_most (has_namespace a) in omega (arith, rest, this)
