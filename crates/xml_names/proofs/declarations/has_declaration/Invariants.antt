use Rattle.std.proofs.Common.{◌≡◌, drop}
use Rattle.std.specs.List.{list_any}
use Rattle.std.specs.Option.{is_some}
use Rattle.xml_names.specs.Declarations.{declared_prefix}
use Rattle.xml_names.proofs.declarations.has_declaration.Given as goal

-- what is left decides
abbrev pub invariant-loop-attribute : goal.invariant-loop-attribute
invariant-loop-attribute l =
    list_any (λ a. is_some (declared_prefix a.name.now)) (drop l.attribute-index l.attributes)
    ≡ list_any (λ a. is_some (declared_prefix a.name.now)) l.attributes
