use Rattle.std.proofs.Common.{◌≡◌, ◌-◌, ◌≤◌, length, map, vec_capacity, vec_len}
use Rattle.xml_names.specs.Expansion.{plain_attribute}
use Rattle.xml_tokens.specs.RawTags.{attribute_of}
use Rattle.xml_names.proofs.expansion.plain_attributes.Given as goal

-- those so far, and room for what is left
abbrev pub invariant-loop-attribute : goal.invariant-loop-attribute
invariant-loop-attribute l = record {
  those : l.attributes.items ≡ map (λ a. plain_attribute (attribute_of a)) l.yielded;
  room : length l.attribute-iterator.rest.items ≤ vec_capacity l.attributes - vec_len l.attributes;
}
