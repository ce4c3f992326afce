use Rattle.std.proofs.Common.{◌≡◌, ℕ, List, drop, nat_cmp}
use Rattle.std.specs.BTreeMap as tree
use Rattle.std.specs.Cmp.Lexicographic.{slice_cmp}
use Rattle.std.specs.Option.{option_map}
use Rattle.xml_names.specs.Scopes
use Rattle.xml_names.proofs.index.by_prefix.Given as goal

-- the declarations from here on
abbrev pub invariant-loop-i : goal.invariant-loop-i
invariant-loop-i l = (q : List ℕ) → option_map (λ s. s.now) (tree.get_by (λ k. slice_cmp nat_cmp q k.now) l.first) ≡ Scopes.first_bound (drop l.i l.own) q
