use Rattle.std.proofs.Common.{◌++◌, sym, ◌∙◌}
use Rattle.xml_names.proofs.Expanded.{attributes_next, attributes_stop}
use Rattle.xml_names.specs.Scopes.{scope_of}
use Rattle.xml_names.proofs.expansion.bound_attributes.Goals as goal

pub loop-attribute-preserved : goal.loop-attribute-preserved
loop-attribute-preserved c =
    attributes_next (c.args.own.now ++ scope_of c.args.stack.now) c.loop-attribute.attributes.items c.push.new.self.items c.in-Some-2.expanded c.in-Some.attribute c.loop-attribute.attribute-iterator.rest.items c.next.new.self.rest.items
    c.in-Some.ensures.steps.0 (sym c.in-Some-2.is ∙ c.in_ok-expanded.ensures) c.in_ok-push-in-Some-2.ensures.items ∙ c.loop-attribute.invariant

pub returns-in-None-2 : goal.returns-in-None-2
returns-in-None-2 c =
    attributes_stop (c.args.own.now ++ scope_of c.args.stack.now) c.loop-attribute.attributes.items c.in-Some.attribute c.loop-attribute.attribute-iterator.rest.items c.next.new.self.rest.items
    c.in-Some.ensures.steps.0 (sym c.in-None-2.is ∙ c.in_ok-expanded.ensures) ∙ c.loop-attribute.invariant
