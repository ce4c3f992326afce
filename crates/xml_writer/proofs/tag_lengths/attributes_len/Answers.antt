use Rattle.std.proofs.Common.{◌+◌, ◌-◌, ◌^◌, drop, length, min, ap, sym, ◌∙◌, arith}
use Rattle.xml_writer.specs.Canon.{assignments, spelled_attribute, spelled_attributes}
use Rattle.xml_writer.proofs.WrittenTags.{all_dropped, attributes_more, len_step, len_whole, next_most}
use Rattle.xml_writer.proofs.tag_lengths.attributes_len.Goals as goal

pub loop-attr-preserved : goal.loop-attr-preserved
loop-attr-preserved c =
    let was = c.loop-attr.invariant in
    let part = assignments (spelled_attribute c.loop-attr.number c.attr-item.result) in
    let rest = assignments (spelled_attributes c.number_after-number.result (drop (c.loop-attr.attr-index + 1) c.args.attrs.now)) in
    let whole = min (length (assignments (spelled_attributes 0 c.args.attrs.now))) (2 ^ 64 - 1) in
    let more = attributes_more c.args.attrs.now c.loop-attr.attr-index c.loop-attr.number c.number_after-number.result c.attr-item.result c.loop-attr-test.true c.attr-item.is c.number_after-number.ensures in
    record {
      len = len_step c.loop-attr.len c.attribute_len.result c.saturating_add-len.result whole (2 ^ 64 - 1) part rest (ap (λ l. min (c.loop-attr.len + length l) (2 ^ 64 - 1)) (sym more) ∙ was.len) c.attribute_len.ensures c.saturating_add-len.ensures;
      most = let e = c.saturating_add-len.ensures in omega (arith, e);
      number = let most = next_most c.loop-attr.number c.number_after-number.result c.attr-item.result c.number_after-number.ensures in omega (arith, most, was.number);
    }

pub returns : goal.returns
returns c =
    let was = c.loop-attr.invariant in
    let none = all_dropped c.args.attrs.now c.loop-attr.attr-index c.loop-attr-test.false in
    len_whole c.loop-attr.len (2 ^ 64 - 1) was.most ∙ ap (λ l. min (c.loop-attr.len + length (assignments (spelled_attributes c.loop-attr.number l))) (2 ^ 64 - 1)) (sym none) ∙ was.len
