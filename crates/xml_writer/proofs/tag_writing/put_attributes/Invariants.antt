use Rattle.std.proofs.Common.{◌≡◌, ◌+◌, ◌≤◌, ◌++◌, drop, length}
use Rattle.xml_writer.specs.Canon.{assignments, spelled_attributes}
use Rattle.xml_writer.proofs.tag_writing.put_attributes.Given as goal

-- what was put and what is left are the whole
abbrev pub invariant-loop-attr : goal.invariant-loop-attr
invariant-loop-attr l = record {
  items : l.out.items ++ assignments (spelled_attributes l.number (drop l.attr-index l.attrs)) ≡ l.fn.out.items ++ assignments (spelled_attributes 0 l.attrs);
  spare : l.fn.out.spare + length (assignments (spelled_attributes l.number (drop l.attr-index l.attrs))) ≤ l.out.spare + length (assignments (spelled_attributes 0 l.attrs));
  room : length (assignments (spelled_attributes l.number (drop l.attr-index l.attrs))) ≤ l.out.spare;
  number : l.number ≤ l.attr-index;
}
