use Rattle.std.proofs.Common.{◌≡◌, ◌+◌, ◌-◌, ◌^◌, ◌≤◌, drop, length, min}
use Rattle.xml_writer.specs.Canon.{assignments, spelled_attributes}
use Rattle.xml_writer.proofs.tag_lengths.attributes_len.Given as goal

-- the length so far and that of what is left are the whole
abbrev pub invariant-loop-attr : goal.invariant-loop-attr
invariant-loop-attr l = record {
  len : min (l.len + length (assignments (spelled_attributes l.number (drop l.attr-index l.attrs)))) (2 ^ 64 - 1) ≡ min (length (assignments (spelled_attributes 0 l.attrs))) (2 ^ 64 - 1);
  most : l.len ≤ 2 ^ 64 - 1;
  number : l.number ≤ l.attr-index;
}
