use Rattle.std.proofs.Common.{◌≡◌, drop}
use Rattle.std.specs.List.{list_all}
use Rattle.xml_names.specs.Declarations.{may_declare}
use Rattle.xml_names.proofs.declarations.all_may_declare.Given as goal

-- what is left decides
abbrev pub invariant-loop-binding : goal.invariant-loop-binding
invariant-loop-binding l = list_all may_declare (drop l.binding-index l.bindings) ≡ list_all may_declare l.bindings
