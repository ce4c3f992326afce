use Rattle.std.proofs.Common.{◌≡◌, ◌+◌, ◌-◌, ◌^◌, ◌≤◌, drop, min}
use Rattle.xml_writer.specs.Weight.{attributes_weight}
use Rattle.xml_writer.proofs.weights.attributes_weight.Given as goal

-- the weight so far and that of what is left are the whole
abbrev pub invariant-loop-attr : goal.invariant-loop-attr
invariant-loop-attr l = record {
  all : min (l.all + attributes_weight (drop l.attr-index l.attrs)) (2 ^ 64 - 1) ≡ min (attributes_weight l.attrs) (2 ^ 64 - 1);
  most : l.all ≤ 2 ^ 64 - 1;
}
