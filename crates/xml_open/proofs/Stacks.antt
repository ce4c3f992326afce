-- Stacks, the innermost last, as the lists of the definitions, the innermost first.
use Rattle.std.proofs.Common.{◌≡◌, ℕ, List, [], ◌∷◌, ◌++◌, map, reverse, ap}
use Rattle.std.proofs.lemmas.List.{reverse-append}
use Rattle.xml_open.specs.Named.{names_of}
use Rattle.xml_trees.specs.Views.{elem_view}
use Rattle.xml_trees.specs.declared.elements.Element.{Element}

pub views_push : (es : List Element) (e : Element) → map elem_view (reverse (es ++ e ∷ [])) ≡ elem_view e ∷ map elem_view (reverse es)
views_push es e = ap (map elem_view) (reverse-append es (e ∷ []))

pub names_push : (ns : List (List ℕ)) (n : List ℕ) → names_of (ns ++ n ∷ []) ≡ n ∷ names_of ns
names_push ns n = reverse-append ns (n ∷ [])
