use Rattle.std.proofs.Common.{◌≡◌, drop}
use Rattle.xml_names.specs.Scopes
use Rattle.xml_names.proofs.scopes.first_bound.Given as goal

-- what is left decides
abbrev pub invariant-loop-binding : goal.invariant-loop-binding
invariant-loop-binding l = Scopes.first_bound (drop l.binding-index l.bindings) l.prefix ≡ Scopes.first_bound l.bindings l.prefix
