use Rattle.std.proofs.Common.{Some, None, Bor, List, ℕ, sym, ap, ◌∙◌}
use Rattle.std.specs.Option.{option_map}
use Rattle.xml_names.proofs.ScopeRuns.{bound_own}
use Rattle.xml_names.specs.Scopes.{scope_of}
use Rattle.xml_names.proofs.index.bound_by.Goals as goal

pub returns-in-Some : goal.returns-in-Some
returns-in-Some c =
    let p = c.args.prefix.now in
    sym (bound_own c.args.index.now.own.now (scope_of c.args.stack.now) p (Some c.in-Some.ns.now.now) (sym c.eq.ensures ∙ c.if-eq.false)
    (ap (option_map (λ (s : Bor (List ℕ)). s.now)) c.in-Some.ensures.value ∙ c.requires p))

pub returns-in-None : goal.returns-in-None
returns-in-None c =
    let p = c.args.prefix.now in
    c.stack_name.ensures ∙ sym (bound_own c.args.index.now.own.now (scope_of c.args.stack.now) p None (sym c.eq.ensures ∙ c.if-eq.false)
    (ap (option_map (λ (s : Bor (List ℕ)). s.now)) c.in-None.ensures.value ∙ c.requires p))
