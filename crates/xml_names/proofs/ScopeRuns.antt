-- The first binding that fits, in scopes that are put together.
use Rattle.std.proofs.Common.{◌≡◌, ℕ, Bool, true, false, cond, List, [], ◌∷◌, ◌++◌, Option, Some, None, Vec, refl, sym, ap, ◌∙◌, append_assoc, append-nil, codes}
use Rattle.std.specs.Str.{bytes_eq}
use Rattle.std.specs.declared.alloc.Global.{Global}
use Rattle.std.proofs.lemmas.Bool.{cond-false}
use Rattle.xml_names.specs.Scopes.{Scope, xml_namespace, first_bound, bound, scope_of}
use Rattle.xml_names.specs.declared.scopes.Binding.{Binding}

-- the first of two answers that there is
abbrev pub or_after : Option (List ℕ) → Option (List ℕ) → Option (List ℕ)
or_after None o = o
or_after (Some x) o = Some x

either_way : (t : Bool) (ns : List ℕ) (u v w : Option (List ℕ)) → u ≡ or_after v w → cond t (Some ns) u ≡ or_after (cond t (Some ns) v) w
either_way true ns u v w e = refl
either_way false ns u v w e = e

pub bound_append : (a b : Scope) (p : List ℕ) → first_bound (a ++ b) p ≡ or_after (first_bound a p) (first_bound b p)
bound_append [] b p = refl
bound_append (x ∷ a) b p = either_way (bytes_eq x.prefix p) x.ns (first_bound (a ++ b) p) (first_bound a p) (first_bound b p) (bound_append a b p)

pub scope_push : (outer : List (Vec Binding Global)) (inner : Vec Binding Global) → scope_of (outer ++ inner ∷ []) ≡ inner.items ++ scope_of outer
scope_push [] inner = sym (append-nil inner.items)
scope_push (o ∷ outer) inner = ap (λ s. s ++ o.items) (scope_push outer inner) ∙ append_assoc inner.items (scope_of outer) o.items

pub found_inside : (all outer : List (Vec Binding Global)) (inner : Vec Binding Global) (p : List ℕ) (r : Option (List ℕ)) → all ≡ outer ++ inner ∷ [] → r ≡ first_bound inner.items p → first_bound (scope_of all) p ≡ or_after r (first_bound (scope_of outer) p)
found_inside all outer inner p r is e =
    ap (λ s. first_bound (scope_of s) p) is ∙ ap (λ s. first_bound s p) (scope_push outer inner) ∙ bound_append inner.items (scope_of outer) p ∙ ap (λ o. or_after o (first_bound (scope_of outer) p)) (sym e)

pub bound_own : (own rest : Scope) (p : List ℕ) (r : Option (List ℕ)) → bytes_eq p (codes "xml") ≡ false → r ≡ first_bound own p → bound (own ++ rest) p ≡ or_after r (first_bound rest p)
unfolding bound
bound_own own rest p r other e =
    cond-false (bytes_eq p (codes "xml")) (Some xml_namespace) (first_bound (own ++ rest) p) other ∙ bound_append own rest p ∙ ap (λ o. or_after o (first_bound rest p)) (sym e)
