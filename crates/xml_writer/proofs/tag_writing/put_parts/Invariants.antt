use Rattle.std.proofs.Common.{◌≡◌, ◌+◌, ◌≤◌, ◌++◌, drop, length}
use Rattle.std.specs.List.{flat_map}
use Rattle.xml_writer.proofs.tag_writing.put_parts.Given as goal

-- what was put and what is left are the whole
abbrev pub invariant-loop-part : goal.invariant-loop-part
invariant-loop-part l = record {
  items : l.out.items ++ flat_map (λ part. part.now) (drop l.part-index l.parts) ≡ l.fn.out.items ++ flat_map (λ part. part.now) l.parts;
  spare : l.fn.out.spare + length (flat_map (λ part. part.now) (drop l.part-index l.parts)) ≤ l.out.spare + length (flat_map (λ part. part.now) l.parts);
  room : length (flat_map (λ part. part.now) (drop l.part-index l.parts)) ≤ l.out.spare;
}
