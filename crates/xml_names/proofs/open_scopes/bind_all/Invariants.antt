use Rattle.std.proofs.Common.{◌≡◌, ℕ, List, drop}
use Rattle.xml_names.specs.Bound.{names_in, with_names}
use Rattle.xml_names.proofs.open_scopes.bind_all.Given as goal

-- the declarations from here on are bound
abbrev pub invariant-loop-i : goal.invariant-loop-i
invariant-loop-i l = (q : List ℕ) → names_in l.index q ≡ with_names (drop l.i l.own) q (names_in l.fn.index q)
