use Rattle.std.proofs.Common.{length, ap, arith}
use Rattle.xml_names.proofs.SpelledNames.{plain_next}
use Rattle.xml_names.proofs.expansion.plain_attributes.Goals as goal

pub loop-attribute-preserved : goal.loop-attribute-preserved
loop-attribute-preserved c = record {
  those =
      plain_next c.loop-attribute.yielded c.in-Some.attribute c.loop-attribute.attributes.items c.push_reserved.new.self.items c.new-ns.result c.in_ok-name.name c.new-ns.ensures c.in_ok-name.ensures c.loop-attribute.invariant.those
      c.push_reserved.ensures.items;
  room = omega (arith, c.loop-attribute.invariant.room, c.push_reserved.ensures.len, c.push_reserved.ensures.capacity, ap length c.in-Some.ensures.steps.0);
}
