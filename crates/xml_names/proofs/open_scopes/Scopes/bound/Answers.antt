use Rattle.std.proofs.Common.{◌≡◌, ◌-◌, [], length, rules, ap, ◌∙◌}
use Rattle.std.specs.List.{slice_get}
use Rattle.xml_names.proofs.BoundNames.{innermost}
use Rattle.xml_names.specs.Bound.{items_in, with_names}
use Rattle.xml_names.specs.Scopes.{first_bound, scope_of}
use Rattle.xml_names.proofs.open_scopes.Scopes.bound.Goals as goal

pub returns-in-Some : goal.returns-in-Some
returns-in-Some c =
    let p = c.args.prefix.now in
    let scope = scope_of c.self.inside.stack.items in
    let seen : c.self.inside.stack.items ≡ c.args.self.now = search rules in
    let names : c.as_slice.result.now ≡ with_names scope p [] = c.as_slice.ensures.value ∙ ap items_in c.in-Some.ensures.value ∙ c.self.invariant p in
    c.last.ensures.value ∙ ap (λ xs. slice_get xs (length xs - 1)) names ∙ innermost scope p ∙ ap (λ s. first_bound (scope_of s) p) seen

pub returns-in-None : goal.returns-in-None
returns-in-None c =
    let p = c.args.prefix.now in
    let scope = scope_of c.self.inside.stack.items in
    let seen : c.self.inside.stack.items ≡ c.args.self.now = search rules in
    let names : [] ≡ with_names scope p [] = ap items_in c.in-None.ensures.value ∙ c.self.invariant p in
    ap (λ xs. slice_get xs (length xs - 1)) names ∙ innermost scope p ∙ ap (λ s. first_bound (scope_of s) p) seen
