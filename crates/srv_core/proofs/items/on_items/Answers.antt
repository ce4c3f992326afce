use Rattle.std.proofs.Common.{[], ap, arith, length, refl, rules, sym, ◌∙◌, ◌≡◌}
use Rattle.std.specs.Vec.Iter.{into_iter_items, into_iter_len}
use Rattle.std.proofs.lemmas.Result.{err_from_is_err_and}
use Rattle.srv_core.proofs.ItemRuns.{all_done, nothing_left, stopped, went_on}
use Rattle.srv_core.specs.Table.{after_item}
use Rattle.srv_state.specs.Seen.{step_of}
use Rattle.srv_core.proofs.items.on_items.Goals as goal

pub loop-item-init : goal.loop-item-init
loop-item-init c = record { went = record { done = []; whole = refl; step = refl }; left = search rules }

pub loop-item-preserved : goal.loop-item-preserved
loop-item-preserved c = record {
  went = went_on c.args.conn c.in-Some.item (into_iter_items c.into_iter-item-iterator.result) (into_iter_items c.loop-item.item-iterator) (into_iter_items c.next.new.self)
      (step_of c.args.context.now) (step_of c.loop-item.context) (step_of c.on_item.new.context) c.loop-item.invariant.went c.in-Some.ensures.steps.0 c.in_ok-on_item.ensures.ok;
  left = search rules;
}

pub returns-in_err-on_item-clause-err : goal.returns-in_err-on_item-clause-err
returns-in_err-on_item-clause-err c =
    let p = err_from_is_err_and c.from_residual.result c.from_residual.ensures.1 in
    rw p.1
    (stopped c.args.conn c.args.items.items (into_iter_items c.into_iter-item-iterator.result) (into_iter_items c.loop-item.item-iterator)
    (step_of c.args.context.now) (step_of c.loop-item.context) (step_of c.on_item.new.context) c.loop-item.invariant.went
    (sym (c.into_iter-item-iterator.ensures.into_iter_gives.0 ∙ c.into_items-item-items.ensures)) c.in_err-on_item.ensures.err)

pub returns-clause-ok : goal.returns-clause-ok
returns-clause-ok c =
    let none : into_iter_items c.loop-item.item-iterator ≡ [] = nothing_left (into_iter_items c.loop-item.item-iterator) (sym c.loop-item.invariant.left ∙ c.in-None.ensures.steps.0) in
    all_done c.args.conn c.args.items.items (into_iter_items c.into_iter-item-iterator.result) (into_iter_items c.loop-item.item-iterator)
    (step_of c.args.context.now) (step_of c.loop-item.context) c.loop-item.invariant.went none
    (sym (c.into_iter-item-iterator.ensures.into_iter_gives.0 ∙ c.into_items-item-items.ensures))
