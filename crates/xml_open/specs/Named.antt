-- Open elements: their names, and what pieces say of them.
use Rattle.std.specs.Prelude.{◌≡◌, ℕ, List, [], ◌∷◌, Option, Some, None, length, reverse}
use Rattle.std.specs.Option.{is_some}
use Rattle.xml_open.specs.Open.{OpenElement, Opens}
use Rattle.xml_open.specs.Pieces.{Reading}
use Rattle.xml_trees.specs.Trees.{Elem}

-- each element with its name
abbrev pub named : Option (List ℕ) → Option Elem → Option OpenElement
named None e = None
named (Some n) None = None
named (Some n) (Some e) = Some (record { spelled = n; element = e })

abbrev pub all_named : List (List ℕ) → List Elem → List OpenElement
all_named [] es = []
all_named (n ∷ ns) [] = []
all_named (n ∷ ns) (e ∷ es) = record { spelled = n; element = e } ∷ all_named ns es

-- names of a stack, the innermost first
abbrev pub names_of : List (List ℕ) → List (List ℕ)
names_of names = reverse names

abbrev pub opens_of : Option (List ℕ) → List (List ℕ) → Reading → Opens
opens_of here below r = record { here = named here r.here; below = all_named (names_of below) r.below }

-- there are as many names as open elements, and no attribute waits for its element
pub record AreNamed (here : Option (List ℕ)) (below : List (List ℕ)) (r : Reading) : Type 0 where
  pub none_waits : r.attrs ≡ []
  pub innermost : is_some here ≡ is_some r.here
  pub others : length below ≡ length r.below
