use Rattle.std.proofs.Common.{◌≡◌, [], ◌∷◌, ◌++◌, rules, sym, ap, ◌∙◌}
use Rattle.xml_names.proofs.BoundNames.{with_append}
use Rattle.xml_names.proofs.ScopeRuns.{scope_push}
use Rattle.xml_names.specs.Bound.{with_names}
use Rattle.xml_names.specs.Scopes.{scope_of}
use Rattle.xml_names.proofs.open_scopes.Scopes.open.Goals as goal

-- the index has what the new declarations bind, inside what the others bind
pub invariant_of-self-2 : goal.invariant_of-self-2
invariant_of-self-2 c =
    λ q.
    let outer = c.self.inside.stack.items in
    let own = c.args.own in
    let rest = with_names (scope_of outer) q [] in
    let grown : c.push.new.self.items ≡ outer ++ own ∷ [] = search rules in
    c.in_ok-bind_all.ensures.ok q ∙ ap (with_names c.as_slice.result.now q) (c.self.invariant q) ∙ ap (λ o. with_names o q rest) c.as_slice.ensures.value
    ∙ sym (with_append own.items (scope_of outer) q []) ∙ ap (λ s. with_names s q []) (sym (scope_push outer own)) ∙ ap (λ s. with_names (scope_of s) q []) (sym grown)
