use Rattle.std.proofs.Common.{◌≡◌, [], rules, sym, ◌∙◌}
use Rattle.std.specs.Vec.Iter.{into_iter_items}
use Rattle.net_hub.proofs.Joins.{all_joined, joined_next, none_joined, nothing_left}
use Rattle.net_hub.proofs.joining.join.Goals as goal

pub loop-output-init : goal.loop-output-init
loop-output-init c = record { yet = none_joined c.new-bundles.result (into_iter_items c.into_iter-output-iterator.result) c.new-bundles.ensures.empty; left = search rules }

pub loop-output-preserved : goal.loop-output-preserved
loop-output-preserved c = record {
  yet = joined_next (into_iter_items c.into_iter-output-iterator.result) (into_iter_items c.loop-output.output-iterator) (into_iter_items c.next.new.self) c.in-Some.output c.loop-output.bundles c.add.new.bundles
      c.loop-output.invariant.yet c.in-Some.ensures.steps.0 c.in_ok-add.ensures;
  left = search rules;
}

pub returns : goal.returns
returns c =
    let none : into_iter_items c.loop-output.output-iterator ≡ [] = nothing_left (into_iter_items c.loop-output.output-iterator) (sym c.loop-output.invariant.left ∙ c.in-None.ensures.steps.0) in
    all_joined (into_iter_items c.into_iter-output-iterator.result) (into_iter_items c.loop-output.output-iterator) c.args.outputs.items c.loop-output.bundles c.loop-output.invariant.yet none
    (c.into_iter-output-iterator.ensures.into_iter_gives.0 ∙ c.into_items-output-items.ensures)
