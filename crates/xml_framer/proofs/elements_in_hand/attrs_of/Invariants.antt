use Rattle.std.proofs.Common.{◌≡◌, ◌++◌, ◌-◌, ◌≤◌, length, map, vec_capacity, vec_len}
use Rattle.std.specs.Vec.Iter.{into_iter_items}
use Rattle.xml_framer.specs.Expanded.{attribute_of}
use Rattle.xml_framer.proofs.elements_in_hand.attrs_of.Given as goal

-- those so far and what is left are all, and there is room for what is left
abbrev pub invariant-loop-attribute : goal.invariant-loop-attribute
invariant-loop-attribute l = record {
  all : l.attrs.items ++ map attribute_of (into_iter_items l.attribute-iterator) ≡ map attribute_of (into_iter_items l.initial.attribute-iterator);
  room : length l.attribute-iterator.rest.items ≤ vec_capacity l.attrs - vec_len l.attrs;
}
