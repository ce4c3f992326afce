use Rattle.std.proofs.Common.{◌≡◌, drop}
use Rattle.std.specs.List.{list_any}
use Rattle.xml_names.specs.Names.{has_colon}
use Rattle.xml_names.proofs.starts.has_prefixed.Given as goal

-- what is left decides
abbrev pub invariant-loop-attribute : goal.invariant-loop-attribute
invariant-loop-attribute l = list_any (λ a. has_colon a.name.now) (drop l.attribute-index l.attributes) ≡ list_any (λ a. has_colon a.name.now) l.attributes
