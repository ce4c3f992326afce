use Rattle.std.proofs.Common.{◌∙◌, ap}
use Rattle.std.specs.Vec.{vec_len}
use Rattle.xml_open.proofs.Names.{closed_pop, positive}
use Rattle.xml_open.specs.Open.{closed, outermost}
use Rattle.xml_open.proofs.opens.OpenElements.end.Goals as goal

pub returns-clause-ok : goal.returns-clause-ok
returns-clause-ok c =
    let some = c.pop.ensures.variant.1 (positive (vec_len c.self.inside.below) c.if-is_empty.ensures) in
    let both = closed_pop c.self.inside.here c.self.inside.below.items c.pop.new.self.items c.pop.result c.self.inside.pieces.reading c.end.new.self.reading c.self.invariant c.if-is_none.ensures c.pop.ensures.items some c.in_ok-end.ensures.ok in
    (both.0 ∙ ap outermost c.self.view_is, both.1 ∙ ap closed c.self.view_is)
