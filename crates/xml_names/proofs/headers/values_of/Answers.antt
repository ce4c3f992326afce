use Rattle.std.proofs.Common.{ap, sym, ◌∙◌}
use Rattle.xml_names.proofs.HeaderValues.{all_are_put, last_put}
use Rattle.xml_names.specs.Headers.{all_put}
use Rattle.xml_names.proofs.headers.values_of.Goals as goal

pub loop-attribute-init : goal.loop-attribute-init
loop-attribute-init c = all_are_put c.args.attributes.items c.no_values-values.result c.no_values-values.ensures

pub loop-attribute-preserved : goal.loop-attribute-preserved
loop-attribute-preserved c =
    ap (all_put c.pop.new.self.items) c.put.ensures ∙ sym (last_put c.pop.new.self.items c.in-Some.attribute c.loop-attribute.values)
    ∙ ap (λ xs. all_put xs c.loop-attribute.values) (sym c.in-Some.ensures.items) ∙ c.loop-attribute.invariant
