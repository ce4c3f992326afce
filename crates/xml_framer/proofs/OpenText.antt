-- Open elements that no text joins.
use Rattle.std.proofs.Common.{◌≡◌, ℕ, Bool, true, ◌==◌, List, [], ◌∷◌, Option, Some, None, length, refl, sym, ap, ◌∙◌, arith}
use Rattle.std.proofs.lemmas.Bool.{eqb-true}
use Rattle.xml_open.specs.Open.{OpenElement, Opens, joined, more_in}
use Rattle.xml_trees.proofs.Folds.{joined_none}
use Rattle.xml_trees.specs.Tidied.{text_node}
use Rattle.xml_trees.specs.Trees.{Elem, element, no_nodes, with_nodes}

with_no_nodes : (e : Elem) → with_nodes e no_nodes ≡ e
with_no_nodes (element ns name attrs kids) = ap (element ns name attrs) (joined_none kids)

none_in : (here : Option OpenElement) → more_in here no_nodes ≡ here
none_in None = refl
none_in (Some o) = ap (λ e. Some (record { spelled = o.spelled; element = e })) (with_no_nodes o.element)

no_text : (os : Opens) → joined os (text_node []) ≡ os
no_text os = ap (λ (here : Option OpenElement). record { here = here; below = os.below }) (none_in os.here)

no_length : (xs : List ℕ) → (length xs == 0) ≡ true → xs ≡ []
no_length [] e = refl
no_length (x ∷ xs) e = let none = eqb-true (length (x ∷ xs)) 0 e in absurd (omega arith)

pub empty_joins : (os : Opens) (xs ys : List ℕ) (r : Bool) → r ≡ true → r ≡ (length ys == 0) → ys ≡ xs → os ≡ joined os (text_node xs)
empty_joins os xs ys r e told same = rw (sym same, no_length ys (sym told ∙ e)) (sym (no_text os))
