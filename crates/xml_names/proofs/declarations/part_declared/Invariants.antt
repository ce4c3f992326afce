use Rattle.std.proofs.Common.{◌≡◌, map}
use Rattle.xml_names.specs.Declarations.{bindings_of, others_of}
use Rattle.xml_tokens.specs.RawTags.{attribute_of}
use Rattle.xml_names.proofs.declarations.part_declared.Given as goal

-- those so far, apart
abbrev pub invariant-loop-attribute : goal.invariant-loop-attribute
invariant-loop-attribute l = (l.bindings.items ≡ bindings_of (map attribute_of l.yielded)) × (map attribute_of l.others.items ≡ others_of (map attribute_of l.yielded))
