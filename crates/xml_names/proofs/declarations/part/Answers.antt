use Rattle.std.proofs.Common.{sym, ap, ◌∙◌}
use Rattle.std.specs.List.{list_any}
use Rattle.std.specs.Option.{is_some}
use Rattle.xml_names.proofs.DeclarationRuns.{undeclared}
use Rattle.xml_names.specs.Declarations.{declared_prefix}
use Rattle.xml_names.proofs.declarations.part.Goals as goal

pub returns-clause-bindings : goal.returns-clause-bindings
returns-clause-bindings c =
    let none = ap (list_any (λ a. is_some (declared_prefix a.name.now))) (sym c.as_slice.ensures.value) ∙ sym c.has_declaration.ensures ∙ c.if-has_declaration.false in
    c.new.ensures.items ∙ (undeclared c.args.attributes.items none).0

pub returns-clause-others : goal.returns-clause-others
returns-clause-others c =
    let none = ap (list_any (λ a. is_some (declared_prefix a.name.now))) (sym c.as_slice.ensures.value) ∙ sym c.has_declaration.ensures ∙ c.if-has_declaration.false in
    (undeclared c.args.attributes.items none).1
