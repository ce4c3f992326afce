use Rattle.std.proofs.Common.{map, sym}
use Rattle.xml_names.proofs.DeclarationRuns.{declared_next, declared_kept, other_kept, other_next}
use Rattle.xml_tokens.specs.RawTags.{attribute_of}
use Rattle.xml_names.proofs.declarations.part_declared.Goals as goal

pub loop-attribute-preserved-in-Some-declared_prefix :
    goal.loop-attribute-preserved-in-Some-declared_prefix
loop-attribute-preserved-in-Some-declared_prefix c =
    let seen = c.loop-attribute.yielded in
    let a = c.in-Some.attribute in
    let p = c.in-Some-declared_prefix.prefix.now in
    let is = sym c.in-Some-declared_prefix.ensures in (
      declared_next seen a p c.loop-attribute.bindings.items c.declare.new.bindings.items is c.loop-attribute.invariant.0 c.in_ok-declare.ensures,
      declared_kept seen a p (map attribute_of c.loop-attribute.others.items) is c.loop-attribute.invariant.1,
    )

pub loop-attribute-preserved : goal.loop-attribute-preserved
loop-attribute-preserved c =
    let seen = c.loop-attribute.yielded in
    let a = c.in-Some.attribute in
    let is = sym c.in_default.ensures in (
      other_kept seen a c.loop-attribute.bindings.items is c.loop-attribute.invariant.0,
      other_next seen a c.loop-attribute.others.items c.push.new.self.items is c.loop-attribute.invariant.1 c.in_ok-push.ensures.items,
    )
