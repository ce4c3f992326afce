use Rattle.std.proofs.Common.{◌≡◌, ℕ, List, drop}
use Rattle.xml_names.specs.Bound.{names_in, with_names}
use Rattle.xml_names.proofs.open_scopes.unbind_all.Given as goal

-- what is left is still bound
abbrev pub invariant-loop-binding : goal.invariant-loop-binding
invariant-loop-binding l =
    (q : List ℕ) (names : List (List ℕ)) → names_in l.fn.index q ≡ with_names l.own q names → names_in l.index q ≡ with_names (drop l.binding-index l.own) q names
