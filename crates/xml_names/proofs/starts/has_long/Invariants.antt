use Rattle.std.proofs.Common.{◌≡◌, drop}
use Rattle.std.specs.List.{list_any}
use Rattle.xml_names.specs.Starts.{is_long}
use Rattle.xml_names.proofs.starts.has_long.Given as goal

-- what is left decides
abbrev pub invariant-loop-binding : goal.invariant-loop-binding
invariant-loop-binding l = list_any (is_long l.most) (drop l.binding-index l.bindings) ≡ list_any (is_long l.most) l.bindings
