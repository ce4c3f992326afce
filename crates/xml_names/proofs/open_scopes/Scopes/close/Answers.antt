use Rattle.std.proofs.Common.{[], sym, ap, ◌∙◌}
use Rattle.xml_names.proofs.BoundNames.{with_append}
use Rattle.xml_names.proofs.ScopeRuns.{scope_push}
use Rattle.xml_names.specs.Bound.{with_names}
use Rattle.xml_names.specs.Scopes.{scope_of}
use Rattle.xml_names.proofs.open_scopes.Scopes.close.Goals as goal

-- the index had what the declarations that leave bound, inside what the others bind
pub invariant_of-self : goal.invariant_of-self
invariant_of-self c =
    λ q.
    let outer = c.pop.new.self.items in
    let rest = with_names (scope_of outer) q [] in
    c.unbind_all.ensures q rest
    (c.self.invariant q ∙ ap (λ s. with_names (scope_of s) q []) c.in-Some.ensures.items ∙ ap (λ s. with_names s q []) (scope_push outer c.in-Some.own)
    ∙ with_append c.in-Some.own.items (scope_of outer) q [] ∙ ap (λ own. with_names own q rest) (sym c.as_slice.ensures.value))
