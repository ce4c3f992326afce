use Rattle.std.proofs.Common.{◌+◌, ◌++◌, ◌≤◌, drop, length, ap, sym, ◌∙◌, subst, arith}
use Rattle.xml_writer.specs.Canon.{assignments, spelled_attribute, spelled_attributes}
use Rattle.xml_writer.proofs.WrittenTags.{attributes_more, items_step, next_most, room_step, spare_step}
use Rattle.xml_writer.proofs.tag_writing.put_attributes.Goals as goal

pub loop-attr-preserved : goal.loop-attr-preserved
loop-attr-preserved c =
    let was = c.loop-attr.invariant in
    let part = assignments (spelled_attribute c.loop-attr.number c.attr-item.result) in
    let rest = assignments (spelled_attributes c.number_after-number.result (drop (c.loop-attr.attr-index + 1) c.args.attrs.now)) in
    let whole = assignments (spelled_attributes 0 c.args.attrs.now) in
    let more = attributes_more c.args.attrs.now c.loop-attr.attr-index c.loop-attr.number c.number_after-number.result c.attr-item.result c.loop-attr-test.true c.attr-item.is c.number_after-number.ensures in
    record {
      items = items_step c.args.out.now.items c.loop-attr.out.items c.put_attribute.new.out.items part rest whole (ap (λ l. c.loop-attr.out.items ++ l) (sym more) ∙ was.items) c.put_attribute.ensures.items;
      spare = spare_step c.args.out.now.spare c.loop-attr.out.spare c.put_attribute.new.out.spare part rest whole (subst (λ l. c.args.out.now.spare + length l ≤ c.loop-attr.out.spare + length whole) more was.spare) c.put_attribute.ensures.spare;
      room = room_step c.loop-attr.out.spare c.put_attribute.new.out.spare part rest (subst (λ l. length l ≤ c.loop-attr.out.spare) more was.room) c.put_attribute.ensures.spare;
      number = let most = next_most c.loop-attr.number c.number_after-number.result c.attr-item.result c.number_after-number.ensures in omega (arith, most, was.number);
    }
