use Rattle.std.proofs.Common.{sym, ap, ◌∙◌}
use Rattle.xml_names.proofs.ScopeRuns.{bound_append, or_after}
use Rattle.xml_names.specs.Scopes.{first_bound, scope_of}
use Rattle.xml_names.proofs.scopes.declared_in.Goals as goal

pub returns-in-Some : goal.returns-in-Some
returns-in-Some c =
    let p = c.args.prefix.now in
    let outer = scope_of c.args.stack.now in
    sym (bound_append c.args.own.now outer p ∙ ap (λ o. or_after o (first_bound outer p)) (sym c.in-Some.ensures))

pub returns-in-None : goal.returns-in-None
returns-in-None c =
    let p = c.args.prefix.now in
    let outer = scope_of c.args.stack.now in
    c.bound.ensures ∙ sym (bound_append c.args.own.now outer p ∙ ap (λ o. or_after o (first_bound outer p)) (sym c.in-None.ensures))
